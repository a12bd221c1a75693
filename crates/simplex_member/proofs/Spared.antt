-- No vote of a correct member is a reason to block it.
use Rattle.std.proofs.Common.{◌≡◌, ⊎_elim, ℕ, Bool, true, false, List, [], ◌∷◌, ◌++◌, Option, Some, refl, sym, ◌∙◌, ap, subst, arith}
use Rattle.std.specs.Prelude.{Contains, if◌then◌else◌}
use Rattle.std.proofs.lemmas.Option.{none-some}
use Rattle.std.proofs.lemmas.List.Elements.{Contains-append_cases}
use Rattle.types_quorum.specs.Counting.{Contains-cases}
use Rattle.types_core.specs.declared.scheme.Scheme.{Ghosts}
use Rattle.simplex_messages.specs.declared.vote.Vote.{Vote}
use Rattle.simplex_record.specs.World.{World, IsCorrect}
use Rattle.simplex_member.specs.Allowed.{AreAllowed}
use Rattle.simplex_member.specs.declared.event.Event.{Event}
use Rattle.simplex_member.specs.declared.event.Event.TheVariants as event
use Rattle.simplex_member.specs.declared.refusal.Refusal.{Refusal}
use Rattle.simplex_member.specs.declared.refusal.Refusal.TheVariants as refusal
use Rattle.simplex_member.specs.Deeds.{Deed, Blocks, Reports}
use Rattle.simplex_member.specs.First.{IsFirst}
use Rattle.simplex_member.specs.Laws.{AreReadBack, HasHeard, HoldsNoVote, LifeLaws}
use Rattle.simplex_member.specs.Lives.{AreFaithful, CameIn, LiveByNodes, Members, WasHanded}
use Rattle.simplex_member.specs.Packet.{Formats, Packet, of_vote}
use Rattle.simplex_member.specs.Point.{History}
use Rattle.simplex_member.specs.Refusals.{blocks_sender, evidence_deeds, packet_tests, refusal_report, refused_deeds, sender_tests, tests}
use Rattle.simplex_member.specs.Setup.{IsOfOneMember, Setup}
use Rattle.simplex_member.proofs.Blame.{came-sound}
use Rattle.simplex_member.proofs.Blocking.{block_in}
use Rattle.simplex_member.proofs.Lists.{lacks-absurd, lacks-map, some-is}
use Rattle.simplex_member.proofs.Peace.{none-contradicts}
use Rattle.simplex_member.proofs.Telling.{apart}

-- a refusal that blocks none isn't one that blocks
pub spares : (r other : Refusal) → Some r ≡ Some other → blocks_sender other ≡ false → blocks_sender r ≡ true → ⊥
spares r other e spared blocks = apart (sym spared ∙ (ap blocks_sender (sym (some-is r other e)) ∙ blocks))

module _ {S D P G C : Type 0} where
  pub sender-alone : (b : Bool) (sender j : ℕ) → Contains {X = Deed S D P G C} (if b then Blocks sender ∷ [] else []) (Blocks j) → (b ≡ true) × (sender ≡ j)
  sender-alone true sender j here = (refl, only here)
    where
      only : Contains {X = Deed S D P G C} (Blocks sender ∷ []) (Blocks j) → sender ≡ j
      only there = ⊎_elim (λ is. some-is sender j (ap block_in is)) (λ later. absurd (omega (arith, later.1))) (Contains-cases (Blocks sender) [] (Blocks j) there)
  sender-alone false sender j here = absurd (omega (arith, here.1))

module _ {S D P G C : Type 0} (g : Ghosts S D P G C) (f : Formats S D P G C) (s : Setup S D C) where
  pub evidence-spares : (h : History S D P G C) (sender : ℕ) (o : Option (Packet S D P G C)) (j : ℕ) → Contains (evidence_deeds g f s h sender o) (Blocks j) → ⊥
  evidence-spares h sender (Some (of_vote v)) j here = lacks-absurd block_in _ (Blocks j) j (lacks-map block_in Reports _ (λ a. refl)) refl here
  evidence-spares h sender o j here = absurd (omega (arith, here.1))

  pub report-spares : (r : Refusal) (deeds : List (Deed S D P G C)) (j : ℕ) → (Contains deeds (Blocks j) → ⊥) → Contains (refusal_report g f s r deeds) (Blocks j) → ⊥
  report-spares refusal.Contradiction deeds j none here = none here
  report-spares r deeds j none here = absurd (omega (arith, here.1))

module _ {S D P G C : Type 0} (g : Ghosts S D P G C) (f : Formats S D P G C) (scheme : S) (m : Members S D P G C) (world : World S D P G C)
    (basis : LifeLaws g) (back : AreReadBack f) (w : LiveByNodes g f scheme m world) (faithful : AreFaithful g f scheme m world) (i j : ℕ) (ci : IsCorrect world i) (cj : IsCorrect world j)
    (s : Setup S D C) (own : IsOfOneMember (m.setup i) s) (h : History S D P G C) (all : AreAllowed g f s h) (heard : HasHeard g f scheme m world i h) where
  -- no test that blocks applies to a vote of a correct member
  none-first : (v : Vote S D P G C) (r : Refusal) → CameIn g f scheme m world i j (of_vote v) → IsFirst (sender_tests g f s j ++ packet_tests g f s h j (Some (of_vote v))) (Some r) → blocks_sender r ≡ true → ⊥
  none-first v r came first blocks =
      let sound = came-sound g f scheme m world basis back w faithful i j ci cj v came in
      ⊎_elim (λ t. spares r refusal.UnknownSender t.1 refl blocks) (λ n.
      ⊎_elim (λ t. spares r refusal.OwnName t.1 refl blocks) (λ n.
      ⊎_elim (λ t. spares r refusal.WrongEpoch t.1 refl blocks) (λ n.
      ⊎_elim (λ t. spares r refusal.ViewZero t.1 refl blocks) (λ n.
      ⊎_elim (λ t. spares r refusal.OutsideWindow t.1 refl blocks) (λ n.
      ⊎_elim (λ t. spares r refusal.NoRoom t.1 refl blocks) (λ n.
      ⊎_elim (λ t. t.0 sound.parent_below) (λ n.
      ⊎_elim (λ t. t.0 sound.signer) (λ n.
      ⊎_elim (λ t. none-contradicts g f scheme m world basis back w faithful i j ci cj s own h all heard v came t.0) (λ n.
      ⊎_elim (λ t. spares r refusal.Repeated t.1 refl blocks) (λ n. none-some r (sym n.1)) n.1) n.1) n.1) n.1) n.1) n.1) n.1) n.1) n.1) first

  pub no-vote : (e : Event D) → WasHanded g f scheme m world i e → (r : Refusal) → IsFirst (tests g f s h e) (Some r) → Contains (refused_deeds g f s h e r) (Blocks j) → HoldsNoVote f e j
  no-vote (event.Packet sender by bytes) handed r first blocks =
      let o = f.packet_in by bytes.items in
      let who = ⊎_elim (λ block. sender-alone {S = S} {D = D} {P = P} {G = G} {C = C} (blocks_sender r) sender j block)
      (λ report. absurd (report-spares g f s r (evidence_deeds g f s h sender o) j (evidence-spares g f s h sender o j) report))
      (Contains-append_cases (if blocks_sender r then Blocks sender ∷ [] else []) (refusal_report g f s r (evidence_deeds g f s h sender o)) (Blocks j) blocks) in (
        who.1,
        λ v is. none-first v r (event.Packet sender by bytes, handed, (who.1, is))
            (subst (λ (x : Option (Packet S D P G C)). IsFirst (sender_tests g f s j ++ packet_tests g f s h j x) (Some r)) is
            (subst (λ (k : ℕ). IsFirst (sender_tests g f s k ++ packet_tests g f s h k o) (Some r)) who.1 first)) who.0,
      )
  no-vote e handed r first blocks = absurd (omega (arith, blocks.1))
