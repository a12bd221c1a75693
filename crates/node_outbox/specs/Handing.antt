-- What is handed out behind what was handed out before.
use Rattle.std.specs.Prelude.{◌≡◌, ◌++◌, List, [], ◌∷◌}
use Rattle.std.proofs.Common.{sym, subst, append-nil, append_assoc}
use Rattle.simplex_member.specs.declared.action.Action.{Action}
use Rattle.simplex_member.specs.Deeds.{Deed, AreActions, IsAction}
use Rattle.simplex_member.specs.Packet.{Formats}

-- behind the actions before these deeds are handed out, and nothing else
abbrev pub AddsDeeds : {S D P G C : Type 0} → Formats S D P G C → List (Action S D P G C) → List (Action S D P G C) → List (Deed S D P G C) → Type 0
AddsDeeds {S} {D} {P} {G} {C} f before after more = (deeds : List (Deed S D P G C)) → AreActions f before deeds → AreActions f after (deeds ++ more)

module _ {S D P G C : Type 0} (f : Formats S D P G C) where
  -- one action more is one deed more
  pub one_more : (actions : List (Action S D P G C)) (a : Action S D P G C) (d : Deed S D P G C) → IsAction f a d → AddsDeeds f actions (actions ++ a ∷ []) (d ∷ [])
  one_more [] a d is [] are = (is, tt)
  one_more (b ∷ actions) a d is (e ∷ deeds) are = (are.0, one_more actions a d is deeds are.1)
  one_more [] a d is (e ∷ deeds) are = absurd are
  one_more (b ∷ actions) a d is [] are = absurd are

  -- nothing is handed out
  pub nothing_more : (actions : List (Action S D P G C)) → AddsDeeds f actions actions []
  nothing_more actions deeds are = subst (λ (l : List (Deed S D P G C)). AreActions f actions l) (sym (append-nil deeds)) are

  -- one thing, and then another
  pub both_more : (before mid after : List (Action S D P G C)) (first second : List (Deed S D P G C)) → AddsDeeds f before mid first → AddsDeeds f mid after second → AddsDeeds f before after (first ++ second)
  both_more before mid after first second one other deeds are =
      subst (λ (l : List (Deed S D P G C)). AreActions f after l) (append_assoc deeds first second) (other (deeds ++ first) (one deeds are))

  -- the same deeds
  pub hands_as : (before after : List (Action S D P G C)) (x y : List (Deed S D P G C)) → x ≡ y → AddsDeeds f before after y → AddsDeeds f before after x
  hands_as before after x y is hands = subst (λ (l : List (Deed S D P G C)). AddsDeeds f before after l) (sym is) hands
