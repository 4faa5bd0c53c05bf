-- The two files that may be open at once.
use Rattle.sccp_work.specs.declared.opened.Opened.{Opened}
use Rattle.sccp_work.specs.declared.opened.Opened.TheVariants.{First, Beside}

-- of what is known of the first file and of the one beside it, what is known of this one
abbrev pub this : {A : Type 0} → Opened → A → A → A
this First a b = a
this Beside a b = b

-- what is known of the other one
abbrev pub other : {A : Type 0} → Opened → A → A → A
other First a b = b
other Beside a b = a
