-- What comes of what the voter wants, and where no number is left to ask under.
use Rattle.std.proofs.Common.{◌≡◌, ◌∷◌, [], Bool, true, false, List, Result, Ok, Err, sym, subst}
use Rattle.std.specs.Prelude.{All, IfOk}
use Rattle.std.proofs.lemmas.Bool.{false≢true}
use Rattle.std.proofs.lemmas.List.Elements.{All-head, All-nil}
use Rattle.types_core.specs.declared.scheme.Scheme.{Ghosts}
use Rattle.types_terms.specs.declared.elector.Elector as elector
use Rattle.simplex_state.specs.declared.state.State.{State}
use Rattle.node_record.specs.declared.tables.Tables.{Tables}
use Rattle.simplex_member.specs.declared.action.Action.{Action}
use Rattle.simplex_member.specs.Asked.{HasNumber}
use Rattle.simplex_member.specs.Member.{Goes}
use Rattle.simplex_member.specs.Packet.{Formats}
use Rattle.simplex_member.specs.Point.{Point, History}
use Rattle.simplex_member.specs.Setup.{Setup}
use Rattle.node_requests.specs.declared.acted.Acted.{Acted}
use Rattle.node_requests.specs.declared.acted.Acted.TheVariants as came
use Rattle.node_requests.specs.Asking.{ComesToAsk, WasAsked, is_latch, is_none}
use Rattle.node_requests.specs.NoneDue.{NoInvalidProposal, NoVerificationToAsk}

-- three facts of one result
pub if_ok_all : {T E : Type 0} (r : Result T E) (P Q R Z : T → Type 0) → ((x : T) → P x → Q x → R x → Z x) → IfOk r P → IfOk r Q → IfOk r R → IfOk r Z
if_ok_all (Ok x) P Q R Z both p q r = both x p q r
if_ok_all (Err why) P Q R Z both p q r = tt

module _ {S L D P G C : Type 0} (g : Ghosts S D P G C) (e : elector.Ghosts L S D P G C) (f : Formats S D P G C) (s : Setup S D C) where
  -- no point leads nowhere
  nowhere : (h end : History S D P G C) (points : List (Point S D P G C)) → All (λ p. is_none p ≡ true) points → Goes g f s h points end → end ≡ h
  nowhere h end [] are goes = goes
  nowhere h end (p ∷ points) are goes = absurd (false≢true (All-head (λ (q : Point S D P G C). is_none q ≡ true) p points are))

  none_is_latch : (points : List (Point S D P G C)) → All (λ p. is_none p ≡ true) points → All (λ p. is_latch p ≡ true) points
  none_is_latch [] are = All-nil (λ (q : Point S D P G C). is_latch q ≡ true)
  none_is_latch (p ∷ points) are = absurd (false≢true (All-head (λ (q : Point S D P G C). is_none q ≡ true) p points are))

  -- where no number is left, nothing more is asked for than that
  pub unnumbered : (voter : State S L D P G C) (tables : Tables S D P G C) (h : History S D P G C) (before after : List (Action S D P G C)) (acted : Acted) → (HasNumber h → ⊥)
      → ComesToAsk g e f s is_none (NoInvalidProposal g f s) voter tables h before after acted → ComesToAsk g e f s is_latch (NoVerificationToAsk g f s) voter tables h before after acted
  unnumbered voter tables h before after came.Did none_left k = k
  unnumbered voter tables h before after came.Nothing none_left k =
      let same : k.end ≡ h = nowhere h k.end k.points k.are_kind k.asked.goes in
      let none_there : HasNumber k.end → ⊥ = subst (λ (x : History S D P G C). HasNumber x → ⊥) (sym same) none_left in
      record {
        points = k.points;
        end = k.end;
        are_kind = none_is_latch k.points k.are_kind;
        asked = k.asked;
        none = record {
          none_invalid = k.none;
          no_verify = λ left. absurd (none_there left);
          none_missing = λ left. absurd (none_there left);
        };
      }

  -- what was done was asked
  pub done_is : (voter : State S L D P G C) (tables : Tables S D P G C) (h : History S D P G C) (before after : List (Action S D P G C)) (is_kind : Point S D P G C → Bool) (Done : History S D P G C → Type 0) (acted : Acted) → acted ≡ came.Did
      → WasAsked g e f s voter tables h before after → ComesToAsk g e f s is_kind Done voter tables h before after acted
  done_is voter tables h before after is_kind Done acted is asked = subst (λ (x : Acted). ComesToAsk g e f s is_kind Done voter tables h before after x) (sym is) asked
