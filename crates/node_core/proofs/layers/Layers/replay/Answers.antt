use Rattle.std.proofs.Common.{◌≡◌, ◌∷◌, ◌++◌, ◌∙◌, [], sym, subst, refl, ℕ, List}
use Rattle.std.specs.Prelude.{map, option_to_list}
use Rattle.std.proofs.lemmas.List.{append-nil}
use Rattle.messages_certificates.specs.declared.artifact.Artifact.{Artifact}
use Rattle.messages_certificates.specs.ProposalCertificate.{Finalization}
use Rattle.simplex_member.specs.declared.action.Action.{Action}
use Rattle.simplex_member.specs.Deeds.{AreActions, Finalizes}
use Rattle.simplex_member.specs.Layers.{voter_of}
use Rattle.simplex_member.specs.Packet.{Formats, formats}
use Rattle.simplex_member.specs.Point.{Opened}
use Rattle.simplex_member.specs.Recorded.{finalization_in, record_of}
use Rattle.simplex_member.specs.Setup.{Setup, IsInTime, owner_of}
use Rattle.node_record.specs.Recorded.{HoldsRecord}
use Rattle.types_core.specs.declared.scheme.Scheme.{Ghosts}
use Rattle.types_terms.specs.declared.elector.Elector as elector
use Rattle.node_core.specs.declared.layers.Layers.{Layers}
use Rattle.node_core.specs.GoingThrough.{IsGoneThrough, StandAt, deeds_along}
use Rattle.node_core.proofs.layers.Layers.replay.Goals as goal

-- at the start all is still to come
start-of : {S L D P G C : Type 0} (g : Ghosts S D P G C) (e : elector.Ghosts L S D P G C) (f : Formats S D P G C) (s : Setup S D C) (now : ℕ) (found : List (Artifact S D P G C)) (layers : Layers S L D P G C) (actions : List (Action S D P G C))
    → IsInTime s now → StandAt g e f s layers (Opened now ∷ []) → actions ≡ [] → IsGoneThrough g e f s now found found layers actions
start-of {S} {L} {D} {P} {G} {C} g e f s now found layers actions in_time stand none = subst (λ (xs : List (Action S D P G C)). IsGoneThrough g e f s now found found layers xs) (sym none) (record {
  h = Opened now ∷ [];
  reading = refl;
  allowed = (record { order = refl; due = in_time; fits = tt; readable = tt }, tt);
  behind = refl;
  stand = stand;
  acts = tt;
})

pub go_through-requires : goal.go_through-requires
go_through-requires g c =
    let t = c.requires in
    let f = formats {S = g.row.S.Denot} {P = g.row.S-PublicKey.Denot} g.D.PartialEq.eq g.D.Write.spelling g.S.Signature.Write.spelling g.S.Certificate.Write.spelling g.D.Read.reading g.S.Signature.Read.reading g.S.Certificate.Read.reading t.members in (
      t.found,
      record {
        members = t.members;
        now = c.args.now;
        s = t.s;
        record_is = t.record_is;
        gone = start-of g.S.Scheme g.L.Elector f t.s c.args.now t.found c.start.new.self c.new-out.result.items t.in_time (c.in_ok-start.ensures t.members t.s t.genesis_is t.new) c.new-out.ensures.items;
      },
    )

pub returns : goal.returns
returns g c = λ n s found genesis_is in_time is new.
    let f = formats {S = g.row.S.Denot} {P = g.row.S-PublicKey.Denot} g.D.PartialEq.eq g.D.Write.spelling g.S.Signature.Write.spelling g.S.Certificate.Write.spelling g.D.Read.reading g.S.Signature.Read.reading g.S.Certificate.Read.reading n in
    let begun = start-of g.S.Scheme g.L.Elector f s c.args.now found c.start.new.self c.new-out.result.items in_time (c.in_ok-start.ensures n s genesis_is new) c.new-out.ensures.items in
    let k = c.in_ok-go_through.ensures n c.args.now s found is begun in
    let whole : record_of k.h ≡ found = sym (k.behind ∙ append-nil (record_of k.h)) in
    let holds = subst (λ (xs : List (Artifact g.row.S.Denot g.row.D.Denot g.row.S-PublicKey.Denot g.row.S-Signature.Denot g.row.S-Certificate.Denot)). HoldsRecord (owner_of s) c.args.recorded.now xs) (sym whole) is.holds in
    let last = c.last_finalized.ensures.value s.voter (voter_of s k.h) k.stand.voter in
    let made = c.in_ok-finalize.ensures f (owner_of s) (record_of k.h) (deeds_along g.S.Scheme f s k.h) holds k.acts in
    let acts = subst (λ (view : ℕ). AreActions f c.finalize.new.out.items (deeds_along g.S.Scheme f s k.h ++ map (λ (x : Finalization g.row.S.Denot g.row.D.Denot g.row.S-PublicKey.Denot g.row.S-Signature.Denot g.row.S-Certificate.Denot). Finalizes x.proposal) (option_to_list (finalization_in (record_of k.h) view)))) last made in
    c.in_ok-end.ensures n c.args.now s found c.go_through.new.out.items c.finalize.new.out.items k acts
