use Rattle.std.proofs.Common.{◌≡◌, ◌∙◌, ℕ, ◌<◌, ◌≤◌, Option, None, Some, sym, subst, arith, true, false}
use Rattle.std.proofs.lemmas.Bool.{false≢true}
use Rattle.voter_history.specs.declared.timeout_reason.TimeoutReason.TheVariants as reason
use Rattle.voter_rules.specs.GivingUp.{IsFirstLatch}
use Rattle.simplex_member.specs.Layers.{finalized_of, latest, voter_of}
use Rattle.simplex_member.specs.Packet.{formats}
use Rattle.node_requests.specs.Asking.{is_none}
use Rattle.node_requests.specs.NoneDue.{NoSilence}
use Rattle.node_requests.specs.Silence.{IsSilentFrom}
use Rattle.node_requests.proofs.Acts.{nothing_asked}
use Rattle.node_requests.proofs.Silences.{heard_is_no_reason, later_is_no_reason, latest_fits, silence_counts}
use Rattle.node_requests.proofs.silence.give_silent_leader_up.Goals as goal

pub returns-in_default-clause-acts : goal.returns-in_default-clause-acts
returns-in_default-clause-acts g c = λ repair s h keeps of actions.
    let f = formats g.D.PartialEq.eq g.D.Write.spelling g.S.Signature.Write.spelling g.S.Certificate.Write.spelling g.D.Read.reading g.S.Signature.Read.reading g.S.Certificate.Read.reading (g.S.Scheme.size s.voter.scheme) in
    let fits = latest_fits g.S.Scheme f s h keeps.begun keeps.allowed in
    let from = subst (λ (o : Option ℕ). IsSilentFrom g.S.Scheme f s h o) c.in_default.is (c.silent_from.ensures repair s h keeps of) in
    nothing_asked g.S.Scheme g.L.Elector f s is_none (NoSilence g.S.Scheme f s) c.args.voter.now c.args.tables.now h actions
    (heard_is_no_reason g.S.Scheme f s h (λ silent. (from (latest h) fits).0 silent)) keeps.voter_is keeps.tables_are

pub returns-then-now-moment-clause-acts : goal.returns-then-now-moment-clause-acts
returns-then-now-moment-clause-acts g c = λ repair s h keeps of actions.
    let f = formats g.D.PartialEq.eq g.D.Write.spelling g.S.Signature.Write.spelling g.S.Certificate.Write.spelling g.D.Read.reading g.S.Signature.Read.reading g.S.Certificate.Read.reading (g.S.Scheme.size s.voter.scheme) in
    let fits = latest_fits g.S.Scheme f s h keeps.begun keeps.allowed in
    let from = subst (λ (o : Option ℕ). IsSilentFrom g.S.Scheme f s h o) c.in-Some.is (c.silent_from.ensures repair s h keeps of) in
    let at = c.moment-now.ensures (finalized_of s h) h keeps.tables_are in
    let early = c.if-now-moment.true in
    nothing_asked g.S.Scheme g.L.Elector f s is_none (NoSilence g.S.Scheme f s) c.args.voter.now c.args.tables.now h actions
    (heard_is_no_reason g.S.Scheme f s h (λ silent. let late : c.in-Some.moment ≤ latest h = (from (latest h) fits).0 silent in absurd (omega (arith, at, late, early)))) keeps.voter_is keeps.tables_are

pub returns-in-Ok-true-clause-acts : goal.returns-in-Ok-true-clause-acts
returns-in-Ok-true-clause-acts g c = λ repair s h keeps of actions.
    let f = formats g.D.PartialEq.eq g.D.Write.spelling g.S.Signature.Write.spelling g.S.Certificate.Write.spelling g.D.Read.reading g.S.Signature.Read.reading g.S.Certificate.Read.reading (g.S.Scheme.size s.voter.scheme) in
    let fits = latest_fits g.S.Scheme f s h keeps.begun keeps.allowed in
    let from = subst (λ (o : Option ℕ). IsSilentFrom g.S.Scheme f s h o) c.in-Some.is (c.silent_from.ensures repair s h keeps of) in
    let at = c.moment-now.ensures (finalized_of s h) h keeps.tables_are in
    let v = voter_of s h in
    let passed = c.if-now-moment.false in
    let late : c.in-Some.moment ≤ latest h = omega (arith, at, passed) in
    let first = (c.in-Ok-true.ensures.answer s.voter v keeps.voter_is).0 c.in-Ok-true.field-0-test in
    silence_counts g.S.Scheme g.L.Elector f s c.trigger_timeout.new.self c.args.tables.now h c.moment-now.result c.current_view-view.result actions keeps.begun at (c.current_view-view.ensures s.voter v keeps.voter_is)
    ((from (latest h) fits).1 late) first (c.in-Ok-true.ensures.keeps s.voter v keeps.voter_is first.counts) keeps.tables_are

pub returns-in-Ok-false-clause-acts : goal.returns-in-Ok-false-clause-acts
returns-in-Ok-false-clause-acts g c = λ repair s h keeps of actions.
    let f = formats g.D.PartialEq.eq g.D.Write.spelling g.S.Signature.Write.spelling g.S.Certificate.Write.spelling g.D.Read.reading g.S.Signature.Read.reading g.S.Certificate.Read.reading (g.S.Scheme.size s.voter.scheme) in
    let v = voter_of s h in
    let view = c.current_view-view.ensures s.voter v keeps.voter_is in
    nothing_asked g.S.Scheme g.L.Elector f s is_none (NoSilence g.S.Scheme f s) c.trigger_timeout.new.self c.args.tables.now h actions
    (later_is_no_reason g.S.Scheme f s h (λ first. false≢true (sym c.in-Ok-false.field-0-test
    ∙ (c.in-Ok-false.ensures.answer s.voter v keeps.voter_is).1 (subst (λ (u : ℕ). IsFirstLatch s.voter v u reason.Inactivity) (sym view) first))))
    (c.in-Ok-false.ensures.unchanged c.in-Ok-false.field-0-test s.voter v keeps.voter_is) keeps.tables_are

-- the leader is silent
pub returns-in-Err-clause-without_memory : goal.returns-in-Err-clause-without_memory
returns-in-Err-clause-without_memory g c = λ repair s h keeps of heard.
    let f = formats g.D.PartialEq.eq g.D.Write.spelling g.S.Signature.Write.spelling g.S.Certificate.Write.spelling g.D.Read.reading g.S.Signature.Read.reading g.S.Certificate.Read.reading (g.S.Scheme.size s.voter.scheme) in
    let fits = latest_fits g.S.Scheme f s h keeps.begun keeps.allowed in
    let from = subst (λ (o : Option ℕ). IsSilentFrom g.S.Scheme f s h o) c.in-Some.is (c.silent_from.ensures repair s h keeps of) in
    let at = c.moment-now.ensures (finalized_of s h) h keeps.tables_are in
    let passed = c.if-now-moment.false in
    let late : c.in-Some.moment ≤ latest h = omega (arith, at, passed) in
    absurd (heard ((from (latest h) fits).1 late))
