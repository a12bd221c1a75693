use Rattle.std.proofs.Common.{sym, ◌∙◌}
use Rattle.types_codec.specs.declared.codec.CodecError.TheVariants.{End, Invalid, TooLong}
use Rattle.types_codec.proofs.Decoding.{value-whole, none-left, none-read}
use Rattle.types_codec.proofs.codec.decode_cfg.Goals as goal

pub returns-then-is_empty-clause-some : goal.returns-then-is_empty-clause-some
returns-then-is_empty-clause-some g c = value-whole (g.met.T.Read.one_spelling c.args.bound c.ranges.bound.fits) c.args.bytes.now c.in-Ok.value c.read_cfg.new.input.now c.in-Ok.ensures (sym c.is_empty.ensures ∙ c.if-is_empty.true)

pub returns-else-is_empty-clause-none : goal.returns-else-is_empty-clause-none
returns-else-is_empty-clause-none g c = none-left (g.met.T.Read.one_spelling c.args.bound c.ranges.bound.fits) c.args.bytes.now c.in-Ok.value c.read_cfg.new.input.now c.in-Ok.ensures (sym c.is_empty.ensures ∙ c.if-is_empty.false)

pub returns-in-Err-End-clause-none : goal.returns-in-Err-End-clause-none
returns-in-Err-End-clause-none g c = none-read (g.met.T.Read.one_spelling c.args.bound c.ranges.bound.fits) c.args.bytes.now End (rw c.in-Err-End.field-0-is at c.in-Err-End.ensures).0

pub returns-in-Err-Invalid-clause-none : goal.returns-in-Err-Invalid-clause-none
returns-in-Err-Invalid-clause-none g c = none-read (g.met.T.Read.one_spelling c.args.bound c.ranges.bound.fits) c.args.bytes.now Invalid (rw c.in-Err-Invalid.field-0-is at c.in-Err-Invalid.ensures).0

pub returns-in-Err-TooLong-clause-none : goal.returns-in-Err-TooLong-clause-none
returns-in-Err-TooLong-clause-none g c = none-read (g.met.T.Read.one_spelling c.args.bound c.ranges.bound.fits) c.args.bytes.now TooLong (rw c.in-Err-TooLong.field-0-is at c.in-Err-TooLong.ensures).0
