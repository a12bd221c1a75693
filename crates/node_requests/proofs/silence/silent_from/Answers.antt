use Rattle.std.proofs.Common.{◌≡◌, ◌≢◌, ◌∙◌, ℕ, ◌+◌, Some, sym, subst, arith}
use Rattle.voter_history.specs.Leaders.{leader}
use Rattle.simplex_member.specs.Asked.{last_heard}
use Rattle.simplex_member.specs.Layers.{current_of, finalized_of, voter_of}
use Rattle.simplex_member.specs.Packet.{formats}
use Rattle.node_requests.proofs.Silences.{is_another, silence_fits, silent_since}
use Rattle.node_requests.proofs.silence.silent_from.Goals as goal

pub returns : goal.returns
returns g c = λ repair s h keeps of.
    let f = formats g.D.PartialEq.eq g.D.Write.spelling g.S.Signature.Write.spelling g.S.Certificate.Write.spelling g.D.Read.reading g.S.Signature.Read.reading g.S.Certificate.Read.reading (g.S.Scheme.size s.voter.scheme) in
    let index = c.in-Some-leader_index.leader in
    let time = c.in-Some.time in
    let v = voter_of s h in
    let within : s.silence ≡ Some time = sym of.time_is ∙ c.in-Some.is in
    let named : leader s.voter v c.current_view.result ≡ Some index = sym (c.leader_index.ensures s.voter v (c.views.ensures s.voter v keeps.voter_is)) ∙ c.in-Some-leader_index.is in
    let known : leader s.voter v (current_of s h) ≡ Some index = subst (λ (view : ℕ). leader s.voter v view ≡ Some index) (c.current_view.ensures s.voter v keeps.voter_is) named in
    let another : index ≢ s.me = is_another c.eq.result index c.args.silence.me s.me c.eq.ensures c.if-eq.false of.me_is in
    let fits = silence_fits g.S.Scheme f s h index time keeps.begun keeps.allowed within in
    let heard = c.last_heard.ensures (finalized_of s h) h keeps.tables_are in
    let cut = c.saturating_add.ensures in
    let moment : c.saturating_add.result ≡ last_heard h index + time = omega (arith, fits, heard, cut) in
    silent_since g.S.Scheme f s h index time c.saturating_add.result known another within moment
