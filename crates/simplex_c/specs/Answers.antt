-- What calls from C answer.
use Rattle.std.specs.Prelude.{◌≡◌, ◌⊎◌, if◌then◌else◌, nat_eq, ℕ, Option, None, Some, Result, Ok, Err}
use Rattle.types_codec.specs.declared.codec.CodecError.{CodecError}
use Rattle.types_codec.specs.declared.codec.CodecError.TheVariants as codec
use Rattle.simplex_record.specs.declared.owner.Owner.{Owner}
use Rattle.cli_tool.specs.declared.decoding.Kind.{Kind}
use Rattle.cli_tool.specs.declared.decoding.Kind.TheVariants as kind

-- the number of a refusal
abbrev pub refusal_number : CodecError → ℕ
refusal_number codec.End = 4
refusal_number codec.Invalid = 5
refusal_number codec.TooLong = 6
refusal_number codec.Memory = 1

-- a size is told with 0, a refusal by its number; or memory ran out
abbrev pub Tells : Result ℕ CodecError → ℕ → ℕ → Type 0
Tells (Ok size) answer length = (answer ≡ 1) ⊎ ((answer ≡ 0) × (length ≡ size))
Tells (Err trouble) answer length = (answer ≡ 1) ⊎ (answer ≡ refusal_number trouble)

-- the kind that a number names: 0 a vote, 1 a certificate, 2 an artifact, 3 a report
abbrev pub kind_at : ℕ → Option Kind
kind_at n = if nat_eq n 0 then Some kind.Vote else if nat_eq n 1 then Some kind.Certificate else if nat_eq n 2 then Some kind.Artifact else if nat_eq n 3 then Some kind.Report else None

-- whose record it is
abbrev pub owner : ℕ → ℕ → ℕ → Owner
owner epoch term member = record { epoch = epoch; term_length = term; signer = member }
