-- The lines that the program prints of its own.
use Rattle.std.specs.Prelude.{ℕ, List, codes}

unfoldable pub usage : List ℕ
usage = codes "usage: show-hex HEX | show FILE | verify PLAN | route PLAN NODE SELECTOR SSN DIGITS | replay PLAN TRACE WORKERS | load NUMBER SIZE WORKERS | cuts HEX | change OLD NEW | connect PLAN NODE FROM SELECTOR SSN DIGITS HEX | send-on PLAN NODE ORIGIN SIZE HEX | import PLAN FILE | covers PLAN | unused PLAN | margin PLAN LOSSES [subsystems] | capture PLAN FILE | order OLD NEW | conform PLAN FILE | wide COMMAND\n"
