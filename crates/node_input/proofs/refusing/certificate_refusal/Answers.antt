use Rattle.std.proofs.Common.{◌≡◌, ◌≢◌, ℕ, inl, inr, refl, sym, ◌∙◌, ap, subst}
use Rattle.std.proofs.lemmas.Bool.{false≢true}
use Rattle.std.specs.Prelude.{◌↔◌, IsTrue}
use Rattle.types_core.specs.Positions.{HasRoom}
use Rattle.messages_certificates.specs.Certificate.{certificate_round, certificate_statement, certified_by}
use Rattle.types_terms.specs.Windows.{Retains}
use Rattle.simplex_record.specs.declared.owner.Owner.{Owner}
use Rattle.simplex_member.specs.Layers.{finalized_of, voter_of}
use Rattle.simplex_member.specs.Packet.{formats}
use Rattle.node_core.specs.Standing.{begun_some}
use Rattle.node_input.proofs.Refusals.{may-stand, ne-same}
use Rattle.node_input.proofs.refusing.certificate_refusal.Goals as goal

pub returns-then-knows_like-clause-first : goal.returns-then-knows_like-clause-first
returns-then-knows_like-clause-first g c = λ s h k.
    let x = c.args.certificate.now in
    let at : c.epoch.result ≡ c.args.core.now.settings.owner.epoch = ne-same c.epoch.result c.args.core.now.settings.owner.epoch c.ne.ensures c.if-ne.false in
    let epoch : (certificate_round x).epoch ≡ s.voter.epoch = sym c.epoch.ensures ∙ at ∙ ap (λ (o : Owner). o.epoch) k.set_up.owner_is in
    let some : (certificate_round x).view ≢ 0 = λ zero. false≢true (sym c.if-is_zero.false ∙ c.is_zero.ensures.1 (c.view-view.ensures ∙ zero)) in
    let admits = subst (λ (w : ℕ). IsTrue c.admits_certificate.result ↔ Retains (finalized_of s h) s.voter.retention w) c.view-view.ensures (c.admits_certificate.ensures s.voter (voter_of s h) (c.views.ensures s.voter (voter_of s h) k.voter)) in
    let room = subst (λ (w : ℕ). IsTrue c.has_room.result ↔ HasRoom s.voter.length w) c.view-view.ensures (subst (λ (n : ℕ). IsTrue c.has_room.result ↔ HasRoom n c.view-view.result) (ap (λ (o : Owner). o.term_length) k.set_up.owner_is) c.has_room.ensures) in
    let f = formats {S = g.row.S.Denot} {P = g.row.S-PublicKey.Denot} g.D.PartialEq.eq g.D.Write.spelling g.S.Signature.Write.spelling g.S.Certificate.Write.spelling g.D.Read.reading g.S.Signature.Read.reading g.S.Certificate.Read.reading (g.S.Scheme.size s.voter.scheme) in
    let known = c.knows_like.ensures.known c.if-knows_like.true s.voter (voter_of s h) k.voter in
    inr (λ ne. ne epoch, inr (some, inr (λ out. out (admits.0 c.if-not-admits_certificate.false), inr (λ out. out (room.0 c.if-not-has_room.false), inr (λ out. out (c.has_parent_below.ensures.0 c.if-not-has_parent_below.false), inl (λ none. known (c.what_is_not_recorded_is_unknown.ensures f s h x k.allowed (begun_some h k.begun) none), refl))))))

pub returns-then-not-verify-clause-first : goal.returns-then-not-verify-clause-first
returns-then-not-verify-clause-first g c = λ s h k.
    let x = c.args.certificate.now in
    let at : c.epoch.result ≡ c.args.core.now.settings.owner.epoch = ne-same c.epoch.result c.args.core.now.settings.owner.epoch c.ne.ensures c.if-ne.false in
    let epoch : (certificate_round x).epoch ≡ s.voter.epoch = sym c.epoch.ensures ∙ at ∙ ap (λ (o : Owner). o.epoch) k.set_up.owner_is in
    let some : (certificate_round x).view ≢ 0 = λ zero. false≢true (sym c.if-is_zero.false ∙ c.is_zero.ensures.1 (c.view-view.ensures ∙ zero)) in
    let admits = subst (λ (w : ℕ). IsTrue c.admits_certificate.result ↔ Retains (finalized_of s h) s.voter.retention w) c.view-view.ensures (c.admits_certificate.ensures s.voter (voter_of s h) (c.views.ensures s.voter (voter_of s h) k.voter)) in
    let room = subst (λ (w : ℕ). IsTrue c.has_room.result ↔ HasRoom s.voter.length w) c.view-view.ensures (subst (λ (n : ℕ). IsTrue c.has_room.result ↔ HasRoom n c.view-view.result) (ap (λ (o : Owner). o.term_length) k.set_up.owner_is) c.has_room.ensures) in
    let f = formats {S = g.row.S.Denot} {P = g.row.S-PublicKey.Denot} g.D.PartialEq.eq g.D.Write.spelling g.S.Signature.Write.spelling g.S.Certificate.Write.spelling g.D.Read.reading g.S.Signature.Read.reading g.S.Certificate.Read.reading (g.S.Scheme.size s.voter.scheme) in
    let none_like = c.what_is_unknown_is_not_recorded.ensures f s h x k.allowed (begun_some h k.begun) (admits.0 c.if-not-admits_certificate.false) (c.knows_like.ensures.unknown c.if-knows_like.false s.voter (voter_of s h) k.voter) in
    let certifies = subst (λ (scheme : g.row.S.Denot). IsTrue c.verify.result ↔ g.S.Scheme.certifies scheme (certificate_statement x) (certified_by x)) (c.deref.ensures ∙ k.set_up.scheme_is) c.verify.ensures in
    inr (λ ne. ne epoch, inr (some, inr (λ out. out (admits.0 c.if-not-admits_certificate.false), inr (λ out. out (room.0 c.if-not-has_room.false), inr (λ out. out (c.has_parent_below.ensures.0 c.if-not-has_parent_below.false), inr (λ none. none none_like, inl (λ does. false≢true (sym c.if-not-verify.true ∙ certifies.1 does), refl)))))))

pub returns-clause-first : goal.returns-clause-first
returns-clause-first g c = λ s h k.
    let x = c.args.certificate.now in
    let at : c.epoch.result ≡ c.args.core.now.settings.owner.epoch = ne-same c.epoch.result c.args.core.now.settings.owner.epoch c.ne.ensures c.if-ne.false in
    let epoch : (certificate_round x).epoch ≡ s.voter.epoch = sym c.epoch.ensures ∙ at ∙ ap (λ (o : Owner). o.epoch) k.set_up.owner_is in
    let some : (certificate_round x).view ≢ 0 = λ zero. false≢true (sym c.if-is_zero.false ∙ c.is_zero.ensures.1 (c.view-view.ensures ∙ zero)) in
    let admits = subst (λ (w : ℕ). IsTrue c.admits_certificate.result ↔ Retains (finalized_of s h) s.voter.retention w) c.view-view.ensures (c.admits_certificate.ensures s.voter (voter_of s h) (c.views.ensures s.voter (voter_of s h) k.voter)) in
    let room = subst (λ (w : ℕ). IsTrue c.has_room.result ↔ HasRoom s.voter.length w) c.view-view.ensures (subst (λ (n : ℕ). IsTrue c.has_room.result ↔ HasRoom n c.view-view.result) (ap (λ (o : Owner). o.term_length) k.set_up.owner_is) c.has_room.ensures) in
    let f = formats {S = g.row.S.Denot} {P = g.row.S-PublicKey.Denot} g.D.PartialEq.eq g.D.Write.spelling g.S.Signature.Write.spelling g.S.Certificate.Write.spelling g.D.Read.reading g.S.Signature.Read.reading g.S.Certificate.Read.reading (g.S.Scheme.size s.voter.scheme) in
    let none_like = c.what_is_unknown_is_not_recorded.ensures f s h x k.allowed (begun_some h k.begun) (admits.0 c.if-not-admits_certificate.false) (c.knows_like.ensures.unknown c.if-knows_like.false s.voter (voter_of s h) k.voter) in
    let certifies = subst (λ (scheme : g.row.S.Denot). IsTrue c.verify.result ↔ g.S.Scheme.certifies scheme (certificate_statement x) (certified_by x)) (c.deref.ensures ∙ k.set_up.scheme_is) c.verify.ensures in
    inr (λ ne. ne epoch, inr (some, inr (λ out. out (admits.0 c.if-not-admits_certificate.false), inr (λ out. out (room.0 c.if-not-has_room.false), inr (λ out. out (c.has_parent_below.ensures.0 c.if-not-has_parent_below.false), inr (λ none. none none_like, inr (λ fails. fails (certifies.0 c.if-not-verify.false), refl)))))))

pub returns-clause-may : goal.returns-clause-may
returns-clause-may g c = λ s h k readable.
    let x = c.args.certificate.now in
    let at : c.epoch.result ≡ c.args.core.now.settings.owner.epoch = ne-same c.epoch.result c.args.core.now.settings.owner.epoch c.ne.ensures c.if-ne.false in
    let epoch : (certificate_round x).epoch ≡ s.voter.epoch = sym c.epoch.ensures ∙ at ∙ ap (λ (o : Owner). o.epoch) k.set_up.owner_is in
    let some : (certificate_round x).view ≢ 0 = λ zero. false≢true (sym c.if-is_zero.false ∙ c.is_zero.ensures.1 (c.view-view.ensures ∙ zero)) in
    let admits = subst (λ (w : ℕ). IsTrue c.admits_certificate.result ↔ Retains (finalized_of s h) s.voter.retention w) c.view-view.ensures (c.admits_certificate.ensures s.voter (voter_of s h) (c.views.ensures s.voter (voter_of s h) k.voter)) in
    let room = subst (λ (w : ℕ). IsTrue c.has_room.result ↔ HasRoom s.voter.length w) c.view-view.ensures (subst (λ (n : ℕ). IsTrue c.has_room.result ↔ HasRoom n c.view-view.result) (ap (λ (o : Owner). o.term_length) k.set_up.owner_is) c.has_room.ensures) in
    let f = formats {S = g.row.S.Denot} {P = g.row.S-PublicKey.Denot} g.D.PartialEq.eq g.D.Write.spelling g.S.Signature.Write.spelling g.S.Certificate.Write.spelling g.D.Read.reading g.S.Signature.Read.reading g.S.Certificate.Read.reading (g.S.Scheme.size s.voter.scheme) in
    let none_like = c.what_is_unknown_is_not_recorded.ensures f s h x k.allowed (begun_some h k.begun) (admits.0 c.if-not-admits_certificate.false) (c.knows_like.ensures.unknown c.if-knows_like.false s.voter (voter_of s h) k.voter) in
    let certifies = subst (λ (scheme : g.row.S.Denot). IsTrue c.verify.result ↔ g.S.Scheme.certifies scheme (certificate_statement x) (certified_by x)) (c.deref.ensures ∙ k.set_up.scheme_is) c.verify.ensures in
    let kept = admits.0 c.if-not-admits_certificate.false in
    record { order = k.begun; due = kept; fits = may-stand g.S.Scheme f s h x epoch kept.0 (room.0 c.if-not-has_room.false) (c.has_parent_below.ensures.0 c.if-not-has_parent_below.false) none_like (certifies.0 c.if-not-verify.false); readable = readable }
