-- A reader of the published plans, a worker with one, and the publisher may cross threads.
use denote.Param.Send.{IsSend, IsSync, AllSend, recorded_send, struct_send, sendable}
use Rattle.std.proofs.Common.{ℕ, List, [], ◌∷◌}
use denote.RattleType.{RattleType}
use denote.Struct.Tuple.{TupleAt, type_at}
use denote.Struct.Struct.{Struct}
use denote.Struct.Declared.{Declared, fields, shape, row}
use Rattle.std.proofs.Crossing.{Deque-send, crosses, send as heap_send, sync as heap_sync}
use Rattle.std.specs.contracts.alloc.Global.{the_row as Global}
use Rattle.std.specs.contracts.collections.VecDeque.{the_row as Deque}
use Rattle.std.specs.contracts.impls.GlobalAllocator.TheImpl.{ghosts as the_global}
use Rattle.left_right.proofs.reader.Reader.TheSendSync as ReaderSent
use Rattle.left_right.proofs.writer.Writer.TheSendSync as WriterSent
use Rattle.left_right.specs.contracts.reader.Reader as Reader
use Rattle.left_right.specs.contracts.writer.Writer as Writer
use Rattle.plan_check.proofs.accepted.Accepted.TheSendSync.{the_send as accepted_send, the_sync as accepted_sync}
use Rattle.plan_check.specs.contracts.accepted.Accepted.{the_row as Accepted}
use Rattle.live_plan.proofs.worker.Worker.TheSendSync as WorkerSent
use Rattle.live_plan.specs.contracts.known.Known.{the_row as Known}
use Rattle.live_plan.specs.contracts.live_place.LivePlace.{the_row as LivePlace}
use Rattle.live_plan.specs.contracts.live_place.LivePlacePlace.TheImpl.{ghosts as the_place}
use Rattle.live_plan.specs.contracts.published.Published.{the_row as Published}
use Rattle.live_plan.specs.contracts.published.PublishedAbsorb.TheImpl.{ghosts as the_absorb}
use Rattle.live_plan.specs.contracts.published.Shown.{the_row as Shown}
use Rattle.live_plan.specs.contracts.rule.ByBatch.{the_row as ByBatch}
use Rattle.live_plan.specs.contracts.rule.ByBatchProtocolPublishedKnown.TheImpl.{ghosts as the_rule}
use Rattle.live_plan.specs.contracts.teller.Teller as Teller
use Rattle.live_plan.specs.contracts.worker.Worker as Worker

-- a struct may cross if each of its fields may
pub declared_send : (T : Declared) → AllSend (fields T) → IsSend (row T)
declared_send T all = recorded_send (Struct (shape T)) T.D T.to T.to_one (struct_send (shape T) all)

published_send : IsSend Published
published_send = search (accepted_send, accepted_sync, sendable, crosses) depth 20

published_sync : IsSync Published
published_sync = search (accepted_send, accepted_sync, sendable, crosses) depth 20

-- a worker, by its reader
reader_send : IsSend (Reader.the_row Published Known ByBatch Global the_rule the_global)
reader_send = ReaderSent.the_send Published Known ByBatch Global the_rule the_global heap_send published_sync heap_sync
    (search (sendable, crosses))

place_send : IsSend LivePlace
place_send = let r = reader_send in search (accepted_send, accepted_sync, sendable, crosses) depth 20

pub worker_send : IsSend (Worker.the_row LivePlace the_place)
worker_send = WorkerSent.the_send LivePlace the_place place_send

-- the publisher, by its writer
writer_send : IsSend (Writer.the_field Published Published Known ByBatch Global Shown the_absorb the_rule the_global).row
writer_send = WriterSent.the_field_send Published Published Known ByBatch Global Shown the_absorb the_rule the_global published_send
    published_send heap_send published_sync heap_sync (search (sendable, crosses))

pub teller_send : IsSend Teller.the_row
teller_send =
    let all : AllSend (fields Teller.the_type) = (writer_send, (search sendable, (search sendable, (search sendable, tt)))) in
    declared_send Teller.the_type all

pub plans_send : IsSend (Deque Accepted Global the_global)
plans_send = Deque-send Accepted accepted_send

-- a closure of four captures may cross if each of them may
pub captures_send : (name : List ℕ) (A B C D : RattleType) → IsSend A → IsSend B → IsSend C → IsSend D
    → IsSend (TupleAt name (A ∷ B ∷ C ∷ D ∷ []))
captures_send name A B C D a b c d = declared_send (type_at name (A ∷ B ∷ C ∷ D ∷ [])) (a, (b, (c, (d, tt))))
