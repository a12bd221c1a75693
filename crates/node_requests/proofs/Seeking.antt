-- What asking for views leaves as it was, and one view more that is asked for.
use Rattle.std.proofs.Common.{◌≡◌, ◌≢◌, ◌⊎◌, ◌<◌, ◌∷◌, ◌++◌, ◌∙◌, [], inl, inr, ⊎_elim, ℕ, Bool, true, false, List, length, Option, None, refl, sym, ap, subst, append_assoc, arith}
use Rattle.std.specs.Prelude.{All, Contains, IfSome, ◌&&◌, if◌then◌else◌}
use Rattle.std.proofs.lemmas.Bool.{false≢true}
use Rattle.std.proofs.lemmas.List.Elements.{All-head, All-nil, All-push, All-tail}
use Rattle.types_quorum.specs.Counting.{Contains-cases, Contains-head, Contains-nil, Contains-rest}
use Rattle.types_core.specs.declared.scheme.Scheme.{Ghosts}
use Rattle.voter_history.specs.History as views
use Rattle.voter_history.specs.Known.{known}
use Rattle.voter_rules.specs.Requests.{CertificateIsWanted}
use Rattle.simplex_resolver.specs.declared.ask.Ask.{Ask}
use Rattle.simplex_resolver.specs.declared.ask.Kind as repair
use Rattle.simplex_resolver.specs.declared.ask.Kind.TheVariants as kind
use Rattle.simplex_resolver.specs.Answers.{is_settled}
use Rattle.simplex_resolver.specs.RepairHistory as repaired
use Rattle.simplex_resolver.specs.Outstanding.{IsOutstanding}
use Rattle.node_record.specs.declared.tables.Tables.{Tables}
use Rattle.node_record.specs.Tables.{KeepsTables}
use Rattle.simplex_member.specs.declared.action.Action.{Action}
use Rattle.simplex_member.specs.declared.asked.Asked.{Asked}
use Rattle.simplex_member.specs.Allowed.{Allowed, AreAllowed, IsSought}
use Rattle.simplex_member.specs.Asked.{AreLower, IsAnswered, IsInWindow, IsPending, IsSent, asks_now, asks_of, backfill, goes_again, sent_of, was_repeated}
use Rattle.simplex_member.specs.Deeds.{Deed, Sends, all_deeds, deeds_of}
use Rattle.simplex_member.specs.Layers.{finalized_of, is_begun, repair_of, voter_of}
use Rattle.simplex_member.specs.Member.{Goes}
use Rattle.simplex_member.specs.Packet.{Formats, of_ask}
use Rattle.simplex_member.specs.Point.{Point, Opened, Told, Asks, History}
use Rattle.simplex_member.specs.Setup.{Setup, member_of}
use Rattle.node_outbox.specs.Handing.{AddsDeeds, both_more, hands_as, nothing_more}
use Rattle.node_requests.specs.declared.acted.Acted.{Acted}
use Rattle.node_requests.specs.declared.acted.Acted.TheVariants as came
use Rattle.node_requests.specs.Fetching.{Fetches, HasFetched, is_fetch}
use Rattle.node_requests.specs.Onward.{is_some_list, on_before, on_behind}

-- what went out for now is one of two lists, and one more ask stands first in both
among_sent : (b : Bool) (x : Asked) (now all : List Asked) (a : Asked) → Contains (if b then now else all) a → Contains (if b then x ∷ now else x ∷ all) a
among_sent true x now all a there = Contains-rest x now a there
among_sent false x now all a there = Contains-rest x all a there

first_sent : (b : Bool) (x : Asked) (now all : List Asked) → Contains (if b then x ∷ now else x ∷ all) x
first_sent true x now all = Contains-head x now
first_sent false x now all = Contains-head x all

module _ {S D P G C : Type 0} (g : Ghosts S D P G C) (f : Formats S D P G C) (s : Setup S D C) where
  -- points behind others
  pub goes_then : (h mid end : History S D P G C) (xs ys : List (Point S D P G C)) → Goes g f s h xs mid → Goes g f s mid ys end → Goes g f s h (xs ++ ys) end
  goes_then h mid end [] ys is goes = subst (λ (e : History S D P G C). Goes g f s e ys end) is goes
  goes_then h mid end (x ∷ xs) ys one other = (one.0, goes_then (x ∷ h) mid end xs ys one.1 other)

  -- what they hand out comes behind
  pub deeds_then : (h mid : History S D P G C) (xs ys : List (Point S D P G C)) → Goes g f s h xs mid → all_deeds g f s h (xs ++ ys) ≡ all_deeds g f s h xs ++ all_deeds g f s mid ys
  deeds_then h mid [] ys is = ap (λ (e : History S D P G C). all_deeds g f s e ys) (sym is)
  deeds_then h mid (x ∷ xs) ys one =
      ap (λ (l : List (Deed S D P G C)). deeds_of g f s h x ++ l) (deeds_then (x ∷ h) mid xs ys one.1)
      ∙ sym (append_assoc (deeds_of g f s h x) (all_deeds g f s (x ∷ h) xs) (all_deeds g f s mid ys))

  -- what is asked of other members says nothing of the voter and of the repair
  pub record StandsAside (h end : History S D P G C) : Type 0 where
    pub voter : voter_of s end ≡ voter_of s h
    pub repair : repair_of f end ≡ repair_of f h
    pub begun : is_begun h ≡ true → is_begun end ≡ true
    pub allowed : AreAllowed g f s h → AreAllowed g f s end
    pub kept : (a : Asked) → Contains (asks_of h) a → Contains (asks_of end) a
    pub sent : (a : Asked) → Contains (sent_of s h) a → Contains (sent_of s end) a

  pub aside_here : (h : History S D P G C) → StandsAside h h
  aside_here h = record { voter = refl; repair = refl; begun = λ is. is; allowed = λ all. all; kept = λ a there. there; sent = λ a there. there }

  pub aside_then : (h mid end : History S D P G C) → StandsAside h mid → StandsAside mid end → StandsAside h end
  aside_then h mid end one other = record {
    voter = other.voter ∙ one.voter;
    repair = other.repair ∙ one.repair;
    begun = λ is. other.begun (one.begun is);
    allowed = λ all. other.allowed (one.allowed all);
    kept = λ a there. other.kept a (one.kept a there);
    sent = λ a there. other.sent a (one.sent a there);
  }

  pub aside_one : (h : History S D P G C) (p : Point S D P G C) → is_fetch p ≡ true → Allowed g f s h p → StandsAside h (p ∷ h)
  aside_one h (Asks view ask to) is may = record {
    voter = refl;
    repair = refl;
    begun = λ began. began;
    allowed = λ all. (may, all);
    kept = λ a there. Contains-rest (record { view = view; ask = ask; to = to }) (asks_of h) a there;
    sent = λ a there. among_sent (goes_again s.repair.again && was_repeated h) (record { view = view; ask = ask; to = to }) (asks_now h) (asks_of h) a there;
  }
  aside_one h p is may = absurd (false≢true is)

  pub stands_aside : (h end : History S D P G C) (points : List (Point S D P G C)) → All (λ p. is_fetch p ≡ true) points → Goes g f s h points end → StandsAside h end
  stands_aside h end [] are is = subst (λ (e : History S D P G C). StandsAside h e) (sym is) (aside_here h)
  stands_aside h end (p ∷ points) are goes =
      aside_then h (p ∷ h) end (aside_one h p (All-head (λ (q : Point S D P G C). is_fetch q ≡ true) p points are) goes.0)
      (stands_aside (p ∷ h) end points (All-tail (λ (q : Point S D P G C). is_fetch q ≡ true) p points are) goes.1)

  -- what went out for now stays so, and was asked
  pub stays_sent : (h end : History S D P G C) (view : ℕ) (ask : Ask) (to : Option ℕ) → StandsAside h end → IsSent f s h view ask to → IsSent f s end view ask to
  stays_sent h end view ask to aside answered = ⊎_elim
      (λ settled. inl (subst (λ r. is_settled s.voter.length r view ask.kind ≡ true) (sym aside.repair) settled))
      (λ asked. inr (aside.sent (record { view = view; ask = ask; to = to }) asked))
      answered

  now_asked : (h : History S D P G C) (x : Asked) → Contains (asks_now h) x → Contains (asks_of h) x
  now_asked [] x here = here
  now_asked (Opened now ∷ h) x here = absurd (Contains-nil x here)
  now_asked (Told now ∷ h) x here = absurd (Contains-nil x here)
  now_asked (Asks view ask to ∷ h) x here = ⊎_elim
      (λ is. subst (λ (y : Asked). Contains (asks_of (Asks view ask to ∷ h)) y) is (Contains-head {X = Asked} (record { view = view; ask = ask; to = to }) (asks_of h)))
      (λ before. Contains-rest {X = Asked} (record { view = view; ask = ask; to = to }) (asks_of h) x (now_asked h x before))
      (Contains-cases {X = Asked} (record { view = view; ask = ask; to = to }) (asks_now h) x here)
  now_asked (p ∷ h) x here = now_asked h x here

  pub sent_answered : (h : History S D P G C) (view : ℕ) (ask : Ask) (to : Option ℕ) → IsSent f s h view ask to → IsAnswered f s h view ask to
  sent_answered h view ask to is = ⊎_elim (λ settled. inl settled) (λ sent. inr (go (goes_again s.repair.again && was_repeated h) sent)) is
    where
      go : (b : Bool) → Contains (if b then asks_now h else asks_of h) (record { view = view; ask = ask; to = to }) → Contains (asks_of h) (record { view = view; ask = ask; to = to })
      go true there = now_asked h (record { view = view; ask = ask; to = to }) there
      go false there = there

  -- so does a view's place among the first to repair
  pub stays_first : (h end : History S D P G C) (view : ℕ) → StandsAside h end → IsInWindow f s h view → IsInWindow f s end view
  stays_first h end view aside within =
      subst (λ (r : List repaired.Item). IfSome s.repair.window (λ most. (lower : List ℕ) × AreLower s.voter.length r view lower × (length lower < most))) (sym aside.repair) within

  -- one view more was asked for behind those before
  pub fetched_on : (tables more : Tables S D P G C) (h end : History S D P G C) (points : List (Point S D P G C)) (view : ℕ) (ask : Ask) (to : Option ℕ) (before mid after : List (Action S D P G C))
      → HasFetched g f s tables h points end before mid → Allowed g f s end (Asks view ask to) → KeepsTables (finalized_of s end) more (Asks view ask to ∷ end)
      → AddsDeeds f mid after (Sends to (of_ask view) ∷ []) → HasFetched g f s more h (points ++ Asks view ask to ∷ []) (Asks view ask to ∷ end) before after
  fetched_on tables more h end points view ask to before mid after k may tables_are sends = record {
    are_fetches = All-push (λ (q : Point S D P G C). is_fetch q ≡ true) points (Asks view ask to) k.are_fetches refl;
    goes = goes_then h end (Asks view ask to ∷ end) points (Asks view ask to ∷ []) k.goes (may, refl);
    tables_are = tables_are;
    acts = hands_as f before after (all_deeds g f s h (points ++ Asks view ask to ∷ [])) (all_deeds g f s h points ++ (Sends to (of_ask view) ∷ []))
        (deeds_then h end points (Asks view ask to ∷ []) k.goes) (both_more f before mid after (all_deeds g f s h points) (Sends to (of_ask view) ∷ []) k.acts sends);
  }

  -- behind views that were asked for, one more was sought: it is answered then, and where nothing was sent for it nothing changed
  pub record HasSought (tables : Tables S D P G C) (h at : History S D P G C) (first : List (Point S D P G C)) (view : ℕ) (ask : Ask) (to : Option ℕ) (before mid after : List (Action S D P G C)) (sent : Bool) : Type 0 where
    pub points : List (Point S D P G C)
    pub end : History S D P G C
    pub fetched : HasFetched g f s tables h points end before after
    pub answered : IsSent f s end view ask to
    pub aside : StandsAside at end
    pub idle : sent ≡ false → (end ≡ at) × (after ≡ mid)
    pub kept : first ≢ [] → points ≢ []
    pub some : sent ≡ true → points ≢ []

  pub seeks : (tables more : Tables S D P G C) (h at : History S D P G C) (points : List (Point S D P G C)) (asked : Asked) (before mid after : List (Action S D P G C)) (sent : Bool)
      → is_begun at ≡ true → HasFetched g f s tables h points at before mid → IsSought g f s at asked.view asked.ask asked.to ⊎ IsPending at asked.view asked.ask asked.to → (asked.ask ≡ backfill → IsInWindow f s at asked.view)
      → Fetches f s more at asked mid after sent
      → HasSought more h at points asked.view asked.ask asked.to before mid after sent
  seeks tables more h at points asked before mid after true begun k sought within came =
      let may : Allowed g f s at (Asks asked.view asked.ask asked.to) = record { order = begun; due = record { sought = sought; first = came.0; within = within }; fits = tt; readable = tt } in
      record {
        points = points ++ Asks asked.view asked.ask asked.to ∷ [];
        end = Asks asked.view asked.ask asked.to ∷ at;
        fetched = fetched_on tables more h at points asked.view asked.ask asked.to before mid after k may came.1 came.2;
        answered = inr (first_sent (goes_again s.repair.again && was_repeated at) (record { view = asked.view; ask = asked.ask; to = asked.to }) (asks_now at) (asks_of at));
        aside = aside_one at (Asks asked.view asked.ask asked.to) refl may;
        idle = λ not_sent. absurd (false≢true (sym not_sent));
        kept = λ some. on_before points (Asks asked.view asked.ask asked.to ∷ []) some;
        some = λ is_sent. on_behind points (Asks asked.view asked.ask asked.to ∷ []) (is_some_list (Asks asked.view asked.ask asked.to) []);
      }
  seeks tables more h at points asked before mid after false begun k sought within came = record {
    points = points;
    end = at;
    fetched = record {
      are_fetches = k.are_fetches;
      goes = k.goes;
      tables_are = came.1;
      acts = subst (λ (l : List (Action S D P G C)). AddsDeeds f before l (all_deeds g f s h points)) (sym came.2) k.acts;
    };
    answered = came.0;
    aside = aside_here at;
    idle = λ not_sent. (refl, came.2);
    kept = λ some. some;
    some = λ is_sent. absurd (false≢true is_sent);
  }

  -- who is sought stays so
  sought_behind : (h end : History S D P G C) (view : ℕ) (ask : Ask) → StandsAside h end → IsSought g f s h view ask None → IsSought g f s end view ask None
  sought_behind h end view ask aside sought = ⊎_elim
      (λ backfills. inl (backfills.0, subst (λ (r : List repaired.Item). IsOutstanding s.voter.length r view) (sym aside.repair) backfills.1))
      (λ waits. inr (waits.0, (waits.1.0, subst (λ (v : List (views.Point S D P G C)). CertificateIsWanted (member_of s) (known s.voter v) waits.1.0 view) (sym aside.voter) waits.1.1)))
      sought

  -- ---- one view after the other is asked for so

  module _ (ask : Ask) (Wanted : ℕ → Type 0) where
    -- all that are wanted were asked for but those that are left; and where none was asked for, nothing changed
    pub record AsksBut (left : List ℕ) (tables : Tables S D P G C) (h : History S D P G C) (before after : List (Action S D P G C)) (acted : Acted) : Type 0 where
      pub points : List (Point S D P G C)
      pub end : History S D P G C
      pub fetched : HasFetched g f s tables h points end before after
      pub idle : acted ≡ came.Nothing → (end ≡ h) × (after ≡ before)
      pub some : acted ≡ came.Did → points ≢ []
      pub due : (view : ℕ) → Contains left view → IsSought g f s h view ask None
      pub rest : (view : ℕ) → Wanted view → Contains left view ⊎ IsSent f s end view ask None

    -- at first all are left
    pub none_asked : (left : List ℕ) (tables : Tables S D P G C) (h : History S D P G C) (actions : List (Action S D P G C)) → KeepsTables (finalized_of s h) tables h
        → ((view : ℕ) → Contains left view → IsSought g f s h view ask None) → ((view : ℕ) → Wanted view → Contains left view) → AsksBut left tables h actions actions came.Nothing
    none_asked left tables h actions tables_are due all = record {
      points = [];
      end = h;
      fetched = record {
        are_fetches = All-nil (λ (q : Point S D P G C). is_fetch q ≡ true);
        goes = refl;
        tables_are = tables_are;
        acts = nothing_more f actions;
      };
      idle = λ none. (refl, refl);
      some = λ did. absurd (cc did);
      due = due;
      rest = λ view wanted. inl (all view wanted);
    }

    -- one more was asked for, or it was answered before
    pub one_fewer : (view : ℕ) (left : List ℕ) (tables more : Tables S D P G C) (h : History S D P G C) (before mid after : List (Action S D P G C)) (acted now : Acted) (sent : Bool) → is_begun h ≡ true
        → (now ≡ came.Nothing → (acted ≡ came.Nothing) × (sent ≡ false)) → (now ≡ came.Did → (acted ≡ came.Did) ⊎ (sent ≡ true)) → AsksBut (view ∷ left) tables h before mid acted
        → ((end : History S D P G C) → StandsAside h end → ask ≡ backfill → IsInWindow f s end view)
        → ((end : History S D P G C) → StandsAside h end → KeepsTables (finalized_of s end) tables end → Fetches f s more end (record { view = view; ask = ask; to = None }) mid after sent)
        → AsksBut left more h before after now
    one_fewer view left tables more h before mid after acted now sent begun came_of did_of k within fetches =
        let aside : StandsAside h k.end = stands_aside h k.end k.points k.fetched.are_fetches k.fetched.goes in
        let next : HasSought more h k.end k.points view ask None before mid after sent =
        seeks tables more h k.end k.points (record { view = view; ask = ask; to = None }) before mid after sent (aside.begun begun) k.fetched
        (inl (sought_behind h k.end view ask aside (k.due view (Contains-head view left)))) (within k.end aside) (fetches k.end aside k.fetched.tables_are) in
        record {
          points = next.points;
          end = next.end;
          fetched = next.fetched;
          idle = λ none.
              let both = came_of none in
              let earlier = k.idle both.0 in
              let this = next.idle both.1 in
              (this.0 ∙ earlier.0, this.1 ∙ earlier.1);
          some = λ did. ⊎_elim (λ earlier. next.kept (k.some earlier)) (λ this. next.some this) (did_of did);
          due = λ u there. k.due u (Contains-rest view left u there);
          rest = λ u is. ⊎_elim
              (λ there. ⊎_elim
              (λ same. inr (subst (λ (w : ℕ). IsSent f s next.end w ask None) same next.answered))
              (λ later. inl later)
              (Contains-cases view left u there))
              (λ answered. inr (stays_sent k.end next.end u ask None next.aside answered))
              (k.rest u is);
        }

-- what isn't settled lies above the last finalized view
pub unsettled_above : (views : ℕ) (h : List repaired.Item) (view : ℕ) (what : repair.Kind) → is_settled views h view what ≡ false → repaired.finalized h < view
unsettled_above views h view kind.Nullification is = grind arith
unsettled_above views h view kind.Notarization is = grind arith
