use Rattle.std.proofs.Common.{length}
use Rattle.types_codec.specs.Codec.{Readable}
use Rattle.simplex_messages.specs.Activity.{activity_fits, activity_spelling, activity_within}
use Rattle.simplex_rules.specs.Counted.{CountsSoFar}
use Rattle.simplex_rules.specs.Survey.{AreSurveyed}
use Rattle.simplex_rules.proofs.auditing.survey_reports.Given as goal

abbrev pub invariant-loop-rest : goal.invariant-loop-rest
invariant-loop-rest g l = CountsSoFar {S = g.row.S.Denot} {P = g.row.S-PublicKey.Denot} (AreSurveyed g.S.Scheme.lists) (Readable (activity_fits g.D.PartialEq.eq g.D.Write.fits g.S.Signature.Write.fits g.S.Certificate.Write.fits) (activity_within (g.S.Certificate.Read.within (g.S.Scheme.size l.scheme)))) (activity_spelling g.D.Write.spelling g.S.Signature.Write.spelling g.S.Certificate.Write.spelling) l.bytes l.rest l.survey

abbrev pub decreases-loop-rest : goal.decreases-loop-rest
decreases-loop-rest g l = length l.rest
