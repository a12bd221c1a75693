use Rattle.std.proofs.Common.{length}
use Rattle.types_codec.specs.Codec.{Readable}
use Rattle.simplex_messages.specs.Activity.{activity_fits, activity_spelling, activity_within}
use Rattle.simplex_rules.specs.Counted.{CountsSoFar}
use Rattle.simplex_rules.specs.Tally.{HoldsReports}
use Rattle.simplex_rules.proofs.auditing.count_reports.Given as goal

abbrev pub invariant-loop-rest : goal.invariant-loop-rest
invariant-loop-rest g l = CountsSoFar (HoldsReports g.S.Scheme.lists (g.S.Scheme.attests l.scheme) g.D.Ord.cmp l.contested) (Readable (activity_fits g.D.PartialEq.eq g.D.Write.fits g.S.Signature.Write.fits g.S.Certificate.Write.fits) (activity_within (g.S.Certificate.Read.within (g.S.Scheme.size l.scheme)))) (activity_spelling g.D.Write.spelling g.S.Signature.Write.spelling g.S.Certificate.Write.spelling) l.bytes l.rest l.tally

abbrev pub decreases-loop-rest : goal.decreases-loop-rest
decreases-loop-rest g l = length l.rest
