-- What a log counts of an operation.
use Rattle.std.specs.Prelude.{ℕ}
use Rattle.pgs_request.specs.Payloads.{size_of}
use Rattle.pgs_request.specs.declared.op.Op.{Op}
use Rattle.pgs_request.specs.declared.op.Op.TheVariants.{Full, Write, SetAttr, SetOmap, SetHeader}

-- the bytes of its payload, and none where it has none: names and keys aren't counted
abbrev pub payload_size : Op → ℕ
payload_size (Full payload) = size_of payload
payload_size (Write at payload) = size_of payload
payload_size (SetAttr name payload) = size_of payload
payload_size (SetOmap key payload) = size_of payload
payload_size (SetHeader payload) = size_of payload
payload_size op = 0
