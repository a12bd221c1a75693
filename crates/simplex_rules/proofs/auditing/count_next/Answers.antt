use Rattle.std.proofs.Common.{◌≢◌, refl, rules}
use Rattle.types_codec.specs.declared.codec.CodecError.TheVariants.{Memory}
use Rattle.simplex_rules.specs.Tally.{HoldsReports}
use Rattle.simplex_rules.proofs.Loose.{loose-counted, loose-none}
use Rattle.simplex_rules.proofs.auditing.count_next.Goals as goal

pub returns-in_ok-count_notarize-in-Ok : goal.returns-in_ok-count_notarize-in-Ok
returns-in_ok-count_notarize-in-Ok g c =
    let Holds = HoldsReports g.S.Scheme.lists (g.S.Scheme.attests c.args.scheme.now) g.D.Ord.cmp c.args.contested.now in
    rw c.in-Some.ensures (loose-counted Holds _ _ _ _ _ _ _ _ c.in-Ok.vote c.in-Some.behind.now c.next_message-read.new.input.now c.args.tally.now c.count_notarize.new.self
    (rw c.in-Ok.is at c.next_message-read.ensures.fitting) (rw c.in-Ok.is at c.next_message-read.ensures.spelled) c.in_ok-count_notarize-in-Ok.ensures)

pub returns-in-Err : goal.returns-in-Err
returns-in-Err g c =
    let n = g.S.Scheme.size c.args.scheme.now in
    let other : c.in-Err.field-0 ≢ Memory = search rules in
    let gives = rw (c.requires.bound, c.in-Err.is) at c.next_message-read.ensures.exact in
    (rw c.in-Some.ensures (loose-none _ _ g.D.PartialEq.eq (g.D.Read.reading n) (g.S.Signature.Read.reading n) (g.S.Certificate.Read.reading n) c.in-Some.behind.now c.next_message-read.new.input.now c.in-Err.field-0 gives other), refl, refl)
