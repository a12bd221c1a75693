-- What was asked until a finalization, asked for again one after the other.
use Rattle.std.proofs.Common.{◌≡◌, ◌≢◌, ◌⊎◌, ◌<◌, ◌&&◌, ◌∷◌, ◌∙◌, [], inl, inr, ⊎_elim, ℕ, Bool, true, false, List, refl, sym, ap, subst}
use Rattle.std.specs.Prelude.{Contains, if◌then◌else◌}
use Rattle.std.proofs.lemmas.List.Elements.{All-nil}
use Rattle.types_quorum.specs.Counting.{Contains-cases, Contains-head, Contains-nil, Contains-rest}
use Rattle.types_core.specs.declared.scheme.Scheme.{Ghosts}
use Rattle.simplex_resolver.specs.declared.ask.Ask.{Ask}
use Rattle.simplex_resolver.specs.Answers.{is_settled}
use Rattle.simplex_resolver.specs.Keeps as repairing
use Rattle.simplex_resolver.specs.declared.state.State.{State as Repair}
use Rattle.node_record.specs.declared.tables.Tables.{Tables}
use Rattle.node_record.specs.Tables.{KeepsTables}
use Rattle.simplex_member.specs.declared.action.Action.{Action}
use Rattle.simplex_member.specs.declared.asked.Asked.{Asked}
use Rattle.voter_rules.specs.declared.config.Again.{Again}
use Rattle.simplex_member.specs.Asked.{IsPending, IsSent, asks_now, asks_of, goes_again, was_repeated}
use Rattle.simplex_member.specs.Laws.{FinalizeAlike}
use Rattle.simplex_member.specs.Layers.{finalized_of, repair_of}
use Rattle.simplex_member.specs.Packet.{Formats}
use Rattle.simplex_member.specs.Point.{Point, History}
use Rattle.simplex_member.specs.Setup.{Setup}
use Rattle.node_outbox.specs.Handing.{nothing_more}
use Rattle.node_requests.specs.declared.acted.Acted.{Acted}
use Rattle.node_requests.specs.declared.acted.Acted.TheVariants as came
use Rattle.node_requests.specs.Fetching.{ArePending, ComesToFetch, Fetches, HasFetched, RepairerKeeps, is_fetch}
use Rattle.node_requests.specs.NoneDue.{NoneToAskAgain}
use Rattle.node_requests.proofs.Seeking.{HasSought, StandsAside, seeks, stands_aside, stays_sent, unsettled_above}

never_true : (b : Bool) → (b ≡ true → ⊥) → b ≡ false
never_true true never = absurd (never refl)
never_true false never = refl

module _ {S D P G C : Type 0} (g : Ghosts S D P G C) (f : Formats S D P G C) (s : Setup S D C) where
  -- what stands was sent again but what is left; and where none was, nothing changed
  pub record AgainBut (left : List Asked) (tables : Tables S D P G C) (h : History S D P G C) (before after : List (Action S D P G C)) (acted : Acted) : Type 0 where
    pub points : List (Point S D P G C)
    pub end : History S D P G C
    pub fetched : HasFetched g f s tables h points end before after
    pub idle : acted ≡ came.Nothing → (end ≡ h) × (after ≡ before)
    pub some : acted ≡ came.Did → points ≢ []
    pub due : (a : Asked) → Contains left a → IsPending h a.view a.ask a.to
    pub rest : (a : Asked) → finalized_of s h < a.view → IsPending h a.view a.ask a.to → Contains left a ⊎ IsSent f s end a.view a.ask a.to

  -- at first all is left
  pub none_again : (pending : List Asked) (tables : Tables S D P G C) (h : History S D P G C) (actions : List (Action S D P G C)) → KeepsTables (finalized_of s h) tables h → ArePending f s h pending → AgainBut pending tables h actions actions came.Nothing
  none_again pending tables h actions tables_are are = record {
    points = [];
    end = h;
    fetched = record {
      are_fetches = All-nil (λ (q : Point S D P G C). is_fetch q ≡ true);
      goes = refl;
      tables_are = tables_are;
      acts = nothing_more f actions;
    };
    idle = λ none. (refl, refl);
    some = λ did. absurd (cc did);
    due = λ a there. ((are a).0 there).1;
    rest = λ a above stands. inl ((are a).1 (above, stands));
  }

  -- what stands does so behind what is asked of other members
  pending_behind : (h end : History S D P G C) (a : Asked) → StandsAside g f s h end → IsPending h a.view a.ask a.to → IsPending end a.view a.ask a.to
  pending_behind h end a aside stands = (stands.0, aside.kept a stands.1)

  -- one more was sent again, or it had gone out
  pub one_again : (x : Asked) (left : List Asked) (repair : Repair) (first tables more : Tables S D P G C) (h : History S D P G C) (before mid after : List (Action S D P G C)) (acted now : Acted) (sent : Bool) → RepairerKeeps g f s repair first h
      → (now ≡ came.Nothing → (acted ≡ came.Nothing) × (sent ≡ false)) → (now ≡ came.Did → (acted ≡ came.Did) ⊎ (sent ≡ true)) → AgainBut (x ∷ left) tables h before mid acted
      → ((end : History S D P G C) → repairing.Keeps s.voter.length repair (repair_of f end) → KeepsTables (finalized_of s end) tables end → Fetches f s more end x mid after sent)
      → AgainBut left more h before after now
  one_again x left repair first tables more h before mid after acted now sent stands came_of did_of k fetches =
      let aside : StandsAside g f s h k.end = stands_aside g f s h k.end k.points k.fetched.are_fetches k.fetched.goes in
      let pending = k.due x (Contains-head x left) in
      let next : HasSought g f s more h k.end k.points x.view x.ask x.to before mid after sent =
      seeks g f s tables more h k.end k.points x before mid after sent (aside.begun stands.begun) k.fetched (inr (pending_behind h k.end x aside pending))
      (λ back. absurd (cc (sym pending.0 ∙ ap (λ (a : Ask). a.until) back)))
      (fetches k.end (subst (λ r. repairing.Keeps s.voter.length repair r) (sym aside.repair) stands.repair_is) k.fetched.tables_are) in
      record {
        points = next.points;
        end = next.end;
        fetched = next.fetched;
        idle = λ none.
            let both = came_of none in
            let earlier = k.idle both.0 in
            let this = next.idle both.1 in
            (this.0 ∙ earlier.0, this.1 ∙ earlier.1);
        some = λ did. ⊎_elim (λ earlier. next.kept (k.some earlier)) (λ this. next.some this) (did_of did);
        due = λ a there. k.due a (Contains-rest x left a there);
        rest = λ a above is. ⊎_elim
            (λ there. ⊎_elim
            (λ same. inr (subst (λ (z : Asked). IsSent f s next.end z.view z.ask z.to) same next.answered))
            (λ later. inl later)
            (Contains-cases x left a there))
            (λ went. inr (stays_sent g f s k.end next.end a.view a.ask a.to next.aside went))
            (k.rest a above is);
      }

  -- when none is left, that comes of it
  pub all_again : FinalizeAlike f s → (tables : Tables S D P G C) (h : History S D P G C) (before after : List (Action S D P G C)) (acted : Acted) → AgainBut [] tables h before after acted
      → ComesToFetch g f s (NoneToAskAgain g f s) tables h before after acted
  all_again alike tables h before after came.Did k = record { points = k.points; end = k.end; fetched = k.fetched; some = k.some refl }
  all_again alike tables h before after came.Nothing k =
      let same = k.idle refl in (
        λ view ask to stands due.
            let unsettled = never_true (is_settled s.voter.length (repair_of f h) view ask.kind) (λ settled. due.first (inl settled)) in
            let above : finalized_of s h < view = subst (λ (low : ℕ). low < view) (alike h) (unsettled_above s.voter.length (repair_of f h) view ask.kind unsettled) in
            ⊎_elim
            (λ left. Contains-nil (record { view = view; ask = ask; to = to }) left)
            (λ went. due.first (subst (λ (e : History S D P G C). IsSent f s e view ask to) same.0 went))
            (k.rest (record { view = view; ask = ask; to = to }) above stands),
        subst (λ (e : History S D P G C). KeepsTables (finalized_of s e) tables e) same.0 k.fetched.tables_are,
        same.1,
      )

  -- where asks don't go again, all that stands went out
  pub none_goes_again : (policy : Again) (tables : Tables S D P G C) (h : History S D P G C) (actions : List (Action S D P G C)) → KeepsTables (finalized_of s h) tables h → s.repair.again ≡ policy → (goes_again policy && was_repeated h) ≡ false
      → ComesToFetch g f s (NoneToAskAgain g f s) tables h actions actions came.Nothing
  none_goes_again policy tables h actions tables_are again_is is = (
    λ view ask to stands due. due.first (inr (subst (λ (b : Bool). Contains (if b then asks_now h else asks_of h) (record { view = view; ask = ask; to = to }))
        (sym (ap (λ (q : Again). goes_again q && was_repeated h) again_is ∙ is)) stands.1)),
    tables_are,
    refl,
  )
