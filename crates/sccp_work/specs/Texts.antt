-- The line that ends a command at a file.
use Rattle.std.specs.Prelude.{ℕ, List, codes}

unfoldable pub read_fault : List ℕ
read_fault = codes "read fault\n"
