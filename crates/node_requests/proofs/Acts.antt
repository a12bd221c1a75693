-- What comes of an act that asks for one thing, and of one that has nothing to ask.
use Rattle.std.proofs.Common.{◌≡◌, ◌∷◌, ◌++◌, [], Bool, true, false, List, refl, append-nil}
use Rattle.std.proofs.lemmas.List.Elements.{All-cons, All-nil}
use Rattle.std.specs.Prelude.{IsTrue, ◌↔◌}
use Rattle.types_core.specs.declared.scheme.Scheme.{Ghosts}
use Rattle.types_terms.specs.declared.elector.Elector as elector
use Rattle.voter_rules.specs.declared.proposal_request.ProposalRequest.{ProposalRequest}
use Rattle.voter_rules.specs.declared.proposal_request.ProposalRequest.TheVariants as request
use Rattle.voter_rules.specs.Building.{IsPrepared}
use Rattle.simplex_state.specs.declared.state.State.{State}
use Rattle.simplex_state.specs.State as voting
use Rattle.node_record.specs.declared.tables.Tables.{Tables}
use Rattle.node_record.specs.Tables.{KeepsTables}
use Rattle.simplex_member.specs.declared.action.Action.{Action}
use Rattle.simplex_member.specs.Allowed.{Allowed}
use Rattle.simplex_member.specs.Deeds.{deeds_of}
use Rattle.simplex_member.specs.Layers.{finalized_of, voter_of}
use Rattle.simplex_member.specs.Packet.{Formats}
use Rattle.simplex_member.specs.Point.{Point, History}
use Rattle.simplex_member.specs.Setup.{Setup}
use Rattle.node_outbox.specs.Handing.{AddsDeeds, hands_as, nothing_more}
use Rattle.node_requests.specs.Asking.{HadNothingToAsk, WasAsked, is_ask}
use Rattle.node_requests.specs.Onward.{is_some_list}

-- a request is for a handoff or not
pub prepared_or_not : {D P : Type 0} (x : ProposalRequest D P) → (b : Bool) × (IsTrue b ↔ IsPrepared x)
prepared_or_not (request.Prepare context) = (true, (λ is. tt, λ is. refl))
prepared_or_not (request.Propose context) = (false, (λ is. cc is, λ is. absurd is))

module _ {S L D P G C : Type 0} (g : Ghosts S D P G C) (e : elector.Ghosts L S D P G C) (f : Formats S D P G C) (s : Setup S D C) where
  -- one point was asked for
  pub one_asked : (voter : State S L D P G C) (tables : Tables S D P G C) (h : History S D P G C) (p : Point S D P G C) (before after : List (Action S D P G C))
      → is_ask p ≡ true → Allowed g f s h p → voting.Keeps g e s.voter voter (voter_of s (p ∷ h)) → KeepsTables (finalized_of s (p ∷ h)) tables (p ∷ h)
      → AddsDeeds f before after (deeds_of g f s h p) → WasAsked g e f s voter tables h before after
  one_asked voter tables h p before after is allowed voter_is tables_are acts = record {
    points = p ∷ [];
    end = p ∷ h;
    asked = record {
      are_asks = All-cons (λ (q : Point S D P G C). is_ask q ≡ true) p [] is (All-nil (λ (q : Point S D P G C). is_ask q ≡ true));
      goes = (allowed, refl);
      voter_is = voter_is;
      tables_are = tables_are;
      acts = hands_as f before after (deeds_of g f s h p ++ []) (deeds_of g f s h p) (append-nil (deeds_of g f s h p)) acts;
    };
    some = is_some_list p [];
  }

  -- nothing was left to be asked
  pub nothing_asked : (is_kind : Point S D P G C → Bool) (Done : History S D P G C → Type 0) (voter : State S L D P G C) (tables : Tables S D P G C) (h : History S D P G C) (actions : List (Action S D P G C))
      → Done h → voting.Keeps g e s.voter voter (voter_of s h) → KeepsTables (finalized_of s h) tables h → HadNothingToAsk g e f s is_kind Done voter tables h actions actions
  nothing_asked is_kind Done voter tables h actions none voter_is tables_are = record {
    points = [];
    end = h;
    are_kind = All-nil (λ (q : Point S D P G C). is_kind q ≡ true);
    asked = record {
      are_asks = All-nil (λ (q : Point S D P G C). is_ask q ≡ true);
      goes = refl;
      voter_is = voter_is;
      tables_are = tables_are;
      acts = nothing_more f actions;
    };
    none = none;
  }
