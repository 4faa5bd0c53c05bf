-- The texts of causes (ITU-T Q.713 sections 3.12, 3.14 and 3.15).
use Rattle.std.specs.Prelude.{ℕ, ◌==◌, if◌then◌else◌, List, [], ◌∷◌, Option, Some, None, codes}
use Rattle.sccp_message.specs.declared.cause.CauseTable.{CauseTable}
use Rattle.sccp_message.specs.declared.cause.CauseTable.TheVariants.{Return, Refusal, Fault}

-- the texts of each list of causes, with their values
abbrev pub texts : CauseTable → List (ℕ × List ℕ)
texts Return =
    (0, codes "no translation for an address of such nature") ∷
    (1, codes "no translation for this specific address") ∷
    (2, codes "subsystem congestion") ∷
    (3, codes "subsystem failure") ∷
    (4, codes "unequipped user") ∷
    (5, codes "MTP failure") ∷
    (6, codes "network congestion") ∷
    (7, codes "unqualified") ∷
    (8, codes "error in message transport") ∷
    (9, codes "error in local processing") ∷
    (10, codes "destination cannot perform reassembly") ∷
    (11, codes "SCCP failure") ∷
    (12, codes "hop counter violation") ∷
    (13, codes "segmentation not supported") ∷
    (14, codes "segmentation failure") ∷
    []
texts Refusal =
    (4, codes "destination address unknown") ∷
    (5, codes "destination inaccessible") ∷
    (6, codes "QoS not available non-transient") ∷
    (7, codes "QoS not available transient") ∷
    (10, codes "subsystem failure") ∷
    (16, codes "hop counter violation") ∷
    (17, codes "SCCP failure") ∷
    (18, codes "no translation for an address of such nature") ∷
    (19, codes "unequipped user") ∷
    []
texts Fault =
    (0, codes "unassigned destination reference") ∷
    (1, codes "inconsistent source reference") ∷
    []

-- the text in the line of a value
abbrev pub text_in : List (ℕ × List ℕ) → ℕ → Option (List ℕ)
text_in [] value = None
text_in (line ∷ lines) value = if value == line.0 then Some line.1 else text_in lines value

-- the text of a cause
abbrev pub text_of : CauseTable → ℕ → Option (List ℕ)
text_of table value = text_in (texts table) value
