use Rattle.std.proofs.Common.{◌≡◌, ◌≢◌, ℕ, inl, inr, refl, sym, ◌∙◌, ap, subst}
use Rattle.std.proofs.lemmas.Bool.{false≢true}
use Rattle.std.specs.Prelude.{◌↔◌, IsTrue}
use Rattle.types_core.specs.Positions.{HasRoom}
use Rattle.simplex_messages.specs.VoteParts.{vote_round}
use Rattle.simplex_record.specs.declared.owner.Owner.{Owner}
use Rattle.simplex_member.specs.Layers.{voter_of}
use Rattle.simplex_member.specs.Refusals.{AdmitsVote}
use Rattle.node_input.proofs.Refusals.{ne-other, ne-same}
use Rattle.node_input.proofs.refusing.vote_refusal.Goals as goal

pub returns-then-not-admits_vote-clause-first : goal.returns-then-not-admits_vote-clause-first
returns-then-not-admits_vote-clause-first g c = λ f s h k.
    let v = c.args.vote.now in
    let at : c.epoch.result ≡ c.args.core.now.settings.owner.epoch = ne-same c.epoch.result c.args.core.now.settings.owner.epoch c.ne.ensures c.if-ne.false in
    let epoch : (vote_round v).epoch ≡ s.voter.epoch = sym c.epoch.ensures ∙ at ∙ ap (λ (o : Owner). o.epoch) k.set_up.owner_is in
    let some : (vote_round v).view ≢ 0 = λ zero. false≢true (sym c.if-is_zero.false ∙ c.is_zero.ensures.1 (c.view-view.ensures ∙ zero)) in
    let admits = subst (λ (w : ℕ). IsTrue c.admits_vote.result ↔ AdmitsVote g.S.Scheme f s h w) c.view-view.ensures (c.admits_vote.ensures s.voter (voter_of s h) (c.views.ensures s.voter (voter_of s h) k.voter)) in
    inr (λ ne. ne epoch, inr (some, inl (λ may. false≢true (sym c.if-not-admits_vote.true ∙ admits.1 may), refl)))

pub returns-then-not-has_room-clause-first : goal.returns-then-not-has_room-clause-first
returns-then-not-has_room-clause-first g c = λ f s h k.
    let v = c.args.vote.now in
    let at : c.epoch.result ≡ c.args.core.now.settings.owner.epoch = ne-same c.epoch.result c.args.core.now.settings.owner.epoch c.ne.ensures c.if-ne.false in
    let epoch : (vote_round v).epoch ≡ s.voter.epoch = sym c.epoch.ensures ∙ at ∙ ap (λ (o : Owner). o.epoch) k.set_up.owner_is in
    let some : (vote_round v).view ≢ 0 = λ zero. false≢true (sym c.if-is_zero.false ∙ c.is_zero.ensures.1 (c.view-view.ensures ∙ zero)) in
    let admits = subst (λ (w : ℕ). IsTrue c.admits_vote.result ↔ AdmitsVote g.S.Scheme f s h w) c.view-view.ensures (c.admits_vote.ensures s.voter (voter_of s h) (c.views.ensures s.voter (voter_of s h) k.voter)) in
    let room = subst (λ (w : ℕ). IsTrue c.has_room.result ↔ HasRoom s.voter.length w) c.view-view.ensures (subst (λ (n : ℕ). IsTrue c.has_room.result ↔ HasRoom n c.view-view.result) (ap (λ (o : Owner). o.term_length) k.set_up.owner_is) c.has_room.ensures) in
    inr (λ ne. ne epoch, inr (some, inr (λ out. out (admits.0 c.if-not-admits_vote.false), inl (λ may. false≢true (sym c.if-not-has_room.true ∙ room.1 may), refl))))

pub returns-then-not-vote_has_parent_below-clause-first : goal.returns-then-not-vote_has_parent_below-clause-first
returns-then-not-vote_has_parent_below-clause-first g c = λ f s h k.
    let v = c.args.vote.now in
    let at : c.epoch.result ≡ c.args.core.now.settings.owner.epoch = ne-same c.epoch.result c.args.core.now.settings.owner.epoch c.ne.ensures c.if-ne.false in
    let epoch : (vote_round v).epoch ≡ s.voter.epoch = sym c.epoch.ensures ∙ at ∙ ap (λ (o : Owner). o.epoch) k.set_up.owner_is in
    let some : (vote_round v).view ≢ 0 = λ zero. false≢true (sym c.if-is_zero.false ∙ c.is_zero.ensures.1 (c.view-view.ensures ∙ zero)) in
    let admits = subst (λ (w : ℕ). IsTrue c.admits_vote.result ↔ AdmitsVote g.S.Scheme f s h w) c.view-view.ensures (c.admits_vote.ensures s.voter (voter_of s h) (c.views.ensures s.voter (voter_of s h) k.voter)) in
    let room = subst (λ (w : ℕ). IsTrue c.has_room.result ↔ HasRoom s.voter.length w) c.view-view.ensures (subst (λ (n : ℕ). IsTrue c.has_room.result ↔ HasRoom n c.view-view.result) (ap (λ (o : Owner). o.term_length) k.set_up.owner_is) c.has_room.ensures) in
    inr (λ ne. ne epoch, inr (some, inr (λ out. out (admits.0 c.if-not-admits_vote.false), inr (λ out. out (room.0 c.if-not-has_room.false), inl (λ may. false≢true (sym c.if-not-vote_has_parent_below.true ∙ c.vote_has_parent_below.ensures.1 may), refl)))))

pub returns-then-ne-2-clause-first : goal.returns-then-ne-2-clause-first
returns-then-ne-2-clause-first g c = λ f s h k.
    let v = c.args.vote.now in
    let at : c.epoch.result ≡ c.args.core.now.settings.owner.epoch = ne-same c.epoch.result c.args.core.now.settings.owner.epoch c.ne.ensures c.if-ne.false in
    let epoch : (vote_round v).epoch ≡ s.voter.epoch = sym c.epoch.ensures ∙ at ∙ ap (λ (o : Owner). o.epoch) k.set_up.owner_is in
    let some : (vote_round v).view ≢ 0 = λ zero. false≢true (sym c.if-is_zero.false ∙ c.is_zero.ensures.1 (c.view-view.ensures ∙ zero)) in
    let admits = subst (λ (w : ℕ). IsTrue c.admits_vote.result ↔ AdmitsVote g.S.Scheme f s h w) c.view-view.ensures (c.admits_vote.ensures s.voter (voter_of s h) (c.views.ensures s.voter (voter_of s h) k.voter)) in
    let room = subst (λ (w : ℕ). IsTrue c.has_room.result ↔ HasRoom s.voter.length w) c.view-view.ensures (subst (λ (n : ℕ). IsTrue c.has_room.result ↔ HasRoom n c.view-view.result) (ap (λ (o : Owner). o.term_length) k.set_up.owner_is) c.has_room.ensures) in
    let other : c.signer.result ≢ c.args.sender = ne-other c.signer.result c.args.sender c.ne-2.ensures c.if-ne-2.true in
    inr (λ ne. ne epoch, inr (some, inr (λ out. out (admits.0 c.if-not-admits_vote.false), inr (λ out. out (room.0 c.if-not-has_room.false), inr (λ out. out (c.vote_has_parent_below.ensures.0 c.if-not-vote_has_parent_below.false), inl (λ e. other (c.signer.ensures ∙ e), refl))))))

pub returns-clause-first : goal.returns-clause-first
returns-clause-first g c = λ f s h k.
    let v = c.args.vote.now in
    let at : c.epoch.result ≡ c.args.core.now.settings.owner.epoch = ne-same c.epoch.result c.args.core.now.settings.owner.epoch c.ne.ensures c.if-ne.false in
    let epoch : (vote_round v).epoch ≡ s.voter.epoch = sym c.epoch.ensures ∙ at ∙ ap (λ (o : Owner). o.epoch) k.set_up.owner_is in
    let some : (vote_round v).view ≢ 0 = λ zero. false≢true (sym c.if-is_zero.false ∙ c.is_zero.ensures.1 (c.view-view.ensures ∙ zero)) in
    let admits = subst (λ (w : ℕ). IsTrue c.admits_vote.result ↔ AdmitsVote g.S.Scheme f s h w) c.view-view.ensures (c.admits_vote.ensures s.voter (voter_of s h) (c.views.ensures s.voter (voter_of s h) k.voter)) in
    let room = subst (λ (w : ℕ). IsTrue c.has_room.result ↔ HasRoom s.voter.length w) c.view-view.ensures (subst (λ (n : ℕ). IsTrue c.has_room.result ↔ HasRoom n c.view-view.result) (ap (λ (o : Owner). o.term_length) k.set_up.owner_is) c.has_room.ensures) in
    let its : c.signer.result ≡ c.args.sender = ne-same c.signer.result c.args.sender c.ne-2.ensures c.if-ne-2.false in
    inr (λ ne. ne epoch, inr (some, inr (λ out. out (admits.0 c.if-not-admits_vote.false), inr (λ out. out (room.0 c.if-not-has_room.false), inr (λ out. out (c.vote_has_parent_below.ensures.0 c.if-not-vote_has_parent_below.false), inr (λ other. other (sym c.signer.ensures ∙ its), refl))))))

pub returns-clause-may : goal.returns-clause-may
returns-clause-may g c = λ f s h k.
    let v = c.args.vote.now in
    let at : c.epoch.result ≡ c.args.core.now.settings.owner.epoch = ne-same c.epoch.result c.args.core.now.settings.owner.epoch c.ne.ensures c.if-ne.false in
    let epoch : (vote_round v).epoch ≡ s.voter.epoch = sym c.epoch.ensures ∙ at ∙ ap (λ (o : Owner). o.epoch) k.set_up.owner_is in
    let some : (vote_round v).view ≢ 0 = λ zero. false≢true (sym c.if-is_zero.false ∙ c.is_zero.ensures.1 (c.view-view.ensures ∙ zero)) in
    let admits = subst (λ (w : ℕ). IsTrue c.admits_vote.result ↔ AdmitsVote g.S.Scheme f s h w) c.view-view.ensures (c.admits_vote.ensures s.voter (voter_of s h) (c.views.ensures s.voter (voter_of s h) k.voter)) in
    let room = subst (λ (w : ℕ). IsTrue c.has_room.result ↔ HasRoom s.voter.length w) c.view-view.ensures (subst (λ (n : ℕ). IsTrue c.has_room.result ↔ HasRoom n c.view-view.result) (ap (λ (o : Owner). o.term_length) k.set_up.owner_is) c.has_room.ensures) in
    let its : c.signer.result ≡ c.args.sender = ne-same c.signer.result c.args.sender c.ne-2.ensures c.if-ne-2.false in
    record { epoch = epoch; window = admits.0 c.if-not-admits_vote.false; room = room.0 c.if-not-has_room.false; parent = c.vote_has_parent_below.ensures.0 c.if-not-vote_has_parent_below.false; signer = sym c.signer.ensures ∙ its }
