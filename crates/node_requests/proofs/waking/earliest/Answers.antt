use Rattle.std.proofs.Common.{◌∙◌, ℕ, Option, sym, subst}
use Rattle.std.proofs.lemmas.Bool.{false≢true}
use Rattle.simplex_member.specs.Layers.{voter_of}
use Rattle.simplex_member.specs.Packet.{formats}
use Rattle.node_requests.specs.Silence.{IsSilentFrom}
use Rattle.node_requests.proofs.Silences.{deadline_alone, deadline_or_silence}
use Rattle.node_requests.proofs.waking.earliest.Goals as goal

pub returns-then-not-counts_silence : goal.returns-then-not-counts_silence
returns-then-not-counts_silence g c = λ repair s h keeps of t small.
    let f = formats g.D.PartialEq.eq g.D.Write.spelling g.S.Signature.Write.spelling g.S.Certificate.Write.spelling g.D.Read.reading g.S.Signature.Read.reading g.S.Certificate.Read.reading (g.S.Scheme.size s.voter.scheme) in
    deadline_alone g.S.Scheme f s h t c.args.moment
    (λ counts. false≢true (sym c.if-not-counts_silence.true ∙ (c.counts_silence.ensures s.voter (voter_of s h) keeps.voter_is).1 (counts.1, counts.2)))

pub returns-in-Some : goal.returns-in-Some
returns-in-Some g c = λ repair s h keeps of t small.
    let f = formats g.D.PartialEq.eq g.D.Write.spelling g.S.Signature.Write.spelling g.S.Certificate.Write.spelling g.D.Read.reading g.S.Signature.Read.reading g.S.Certificate.Read.reading (g.S.Scheme.size s.voter.scheme) in
    let from = subst (λ (o : Option ℕ). IsSilentFrom g.S.Scheme f s h o) c.in-Some.is (c.silent_from.ensures repair s h keeps of) in
    deadline_or_silence g.S.Scheme f s h t c.args.moment c.in-Some.silent c.min.result c.min.ensures (from t small)
    ((c.counts_silence.ensures s.voter (voter_of s h) keeps.voter_is).0 c.if-not-counts_silence.false)

pub returns-in-None : goal.returns-in-None
returns-in-None g c = λ repair s h keeps of t small.
    let f = formats g.D.PartialEq.eq g.D.Write.spelling g.S.Signature.Write.spelling g.S.Certificate.Write.spelling g.D.Read.reading g.S.Signature.Read.reading g.S.Certificate.Read.reading (g.S.Scheme.size s.voter.scheme) in
    let from = subst (λ (o : Option ℕ). IsSilentFrom g.S.Scheme f s h o) c.in-None.is (c.silent_from.ensures repair s h keeps of) in
    deadline_alone g.S.Scheme f s h t c.args.moment (λ counts. (from t small).0 counts.0)
