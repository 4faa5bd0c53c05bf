use Rattle.std.proofs.Common.{[]}
use Rattle.relay_watch.proofs.Told.{unexplained_from}
use Rattle.relay_watch.proofs.laws.unexplained_truly.Goals as goal

pub returns : goal.returns
returns c = λ plan events lines left i j node e a v sent. unexplained_from plan events lines [] left i j node e a v sent
