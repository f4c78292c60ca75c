-- The bytes that a payload stands for.
use Rattle.std.specs.Prelude.{ℕ, List, length, replicate}
use Rattle.pgs_request.specs.declared.payload.Payload.{Payload}
use Rattle.pgs_request.specs.declared.payload.Payload.TheVariants.{Text, Hex, Fill}

-- the bytes themselves
abbrev pub bytes_of : Payload → List ℕ
bytes_of (Text bytes) = bytes
bytes_of (Hex bytes) = bytes
bytes_of (Fill count byte) = replicate count byte

-- how many they are
abbrev pub size_of : Payload → ℕ
size_of payload = length (bytes_of payload)
