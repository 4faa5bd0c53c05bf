-- What is kept of the chunks of a user message while they are put together: their keys, and the data.
use Rattle.std.specs.Prelude.{List, [], ◌∷◌, ◌++◌, map}
use Rattle.packet_layers.specs.Values.{DataChunk}
use Rattle.user_messages.specs.declared.key.Key.{Key}
use Rattle.user_messages.specs.declared.run.Run.{Run}
use Rattle.user_messages.specs.Chunks.{key_of}
use Rattle.user_messages.specs.UserMessages.{message_of}
use Rattle.user_messages.specs.Gathering.{Received, chunks_of}

abbrev pub keys_of : List DataChunk → List Key
keys_of chunks = map key_of chunks

unfoldable pub put_together : List Received → Run
put_together run = record { keys = keys_of (chunks_of run); octets = message_of (chunks_of run) }

-- with one more chunk
unfoldable pub longer : Run → DataChunk → Run
longer run c = record { keys = run.keys ++ key_of c ∷ []; octets = run.octets ++ c.payload }

-- with more chunks
unfoldable pub longer_by : Run → List Received → Run
longer_by run more = record { keys = run.keys ++ keys_of (chunks_of more); octets = run.octets ++ message_of (chunks_of more) }
