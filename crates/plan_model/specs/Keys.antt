-- The keys of a plan text, as reports of faults name them.
use Rattle.std.specs.Prelude.{List, ℕ, codes}
use Rattle.plan_model.specs.declared.key.Key.{Key}
use Rattle.plan_model.specs.declared.key.Key.TheVariants.{Version, Node, Cover, Name, Point, Subsystems, Concerned, Row, Selector, Prefix}
use Rattle.plan_model.specs.declared.key.Key.TheVariants.{First, Backup, Targets, Ssn, Least, Most, Allowed, Unknown}

abbrev pub word_of : Key → List ℕ
word_of Version = codes "version"
word_of Node = codes "node"
word_of Cover = codes "cover"
word_of Name = codes "name"
word_of Point = codes "point"
word_of Subsystems = codes "subsystems"
word_of Concerned = codes "concerned"
word_of Row = codes "row"
word_of Selector = codes "selector"
word_of Prefix = codes "prefix"
word_of First = codes "first"
word_of Backup = codes "backup"
word_of Targets = codes "targets"
word_of Ssn = codes "ssn"
word_of Least = codes "least"
word_of Most = codes "most"
word_of Allowed = codes "allowed"
word_of Unknown = codes "unknown key"
