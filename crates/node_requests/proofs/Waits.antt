-- Views that are given up on the way to a proposal that waits, and what is asked for that behind them.
use Rattle.std.proofs.Common.{◌≡◌, ◌≢◌, ◌⊎◌, ◌<◌, ◌≤◌, ◌+◌, ◌∷◌, ◌++◌, ◌∙◌, [], inl, inr, ⊎_elim, ℕ, Bool, true, false, List, Option, Some, None, refl, sym, ap, subst, append-nil, arith}
use Rattle.std.specs.Prelude.{◌^◌, ◌-◌, ◌&&◌, All, IsSome, IsTrue, is_none, is_some, ◌↔◌}
use Rattle.std.proofs.lemmas.Bool.{cases_lt, false≢true}
use Rattle.std.proofs.lemmas.List.Elements.{All-append, All-cons, All-nil, All-push, All-weaker}
use Rattle.types_quorum.specs.Counting.{Contains-head}
use Rattle.types_core.specs.declared.context.Context.{Context}
use Rattle.types_core.specs.declared.proposal.Proposal.{Proposal}
use Rattle.types_core.specs.declared.scheme.Scheme.{Ghosts}
use Rattle.types_terms.specs.declared.elector.Elector as elector
use Rattle.types_terms.specs.Spans.{term_end-above}
use Rattle.types_terms.specs.Windows.{AdmitsOutbound}
use Rattle.voter_history.specs.declared.timeout_reason.TimeoutReason.{TimeoutReason}
use Rattle.voter_history.specs.declared.timeout_reason.TimeoutReason.TheVariants as reason
use Rattle.voter_history.specs.Past as past
use Rattle.voter_history.specs.Past.{Item}
use Rattle.voter_history.specs.History as views
use Rattle.voter_history.specs.History.{ancestry_asked, current, latched, seen}
use Rattle.voter_history.specs.Leaders.{leader}
use Rattle.voter_history.specs.Known.{Known, known}
use Rattle.voter_rules.specs.Ancestry.{member}
use Rattle.voter_rules.specs.Asking.{Finds}
use Rattle.voter_rules.specs.GivingUp.{IsFirstLatch, MayLatch}
use Rattle.voter_rules.specs.Laws.{OneIsFound}
use Rattle.voter_rules.specs.declared.requests.VerifyRequest.{VerifyRequest}
use Rattle.voter_rules.specs.declared.requests.VerifyRequest.TheVariants as request
use Rattle.voter_rules.specs.Requests.{AsksNothing, IsInvalid, Scanned, begun, passed, given_up, left_so}
use Rattle.voter_laws.specs.Matching.{ScanChangesNothing, ScanLeavesNoReason}
use Rattle.voter_laws.specs.Missing.{IsMissing}
use Rattle.voter_laws.specs.StaysKnown.{WhatIsKnownStays}
use Rattle.simplex_resolver.specs.declared.ask.Ask.{Ask}
use Rattle.simplex_resolver.specs.declared.ask.Kind as repair
use Rattle.simplex_resolver.specs.declared.ask.Kind.TheVariants as kind
use Rattle.simplex_state.specs.declared.state.State.{State}
use Rattle.simplex_state.specs.declared.verify.Verify.TheVariants as verify
use Rattle.simplex_state.specs.State as voting
use Rattle.simplex_state.specs.Verifying.{Answers, AsksCertificate, AsksVerification}
use Rattle.node_record.specs.declared.tables.Tables.{Tables}
use Rattle.node_record.specs.Tables.{KeepsTables, Remembered, Tells, remembered}
use Rattle.simplex_member.specs.declared.action.Action.{Action}
use Rattle.simplex_member.specs.Allowed.{Allowed, LatchIsDue}
use Rattle.simplex_member.specs.Asked.{HasNumber, ancestry, asks_of, next_number}
use Rattle.simplex_member.specs.Deeds.{Verifies, all_deeds}
use Rattle.simplex_member.specs.Layers.{finalized_of, is_begun, known_of, latest, repair_of, voter_of}
use Rattle.simplex_member.specs.Member.{Goes}
use Rattle.simplex_member.specs.Packet.{Formats}
use Rattle.simplex_member.specs.Point.{Point, AsksVerify, Asks, Latches, Resolves, History}
use Rattle.simplex_member.specs.Setup.{Setup, member_of}
use Rattle.node_outbox.specs.Handing.{AddsDeeds, hands_as, nothing_more}
use Rattle.simplex_resolver.specs.declared.state.State.{State as Repair}
use Rattle.node_requests.specs.Asking.{AskerKeeps, HadNothingToAsk, HasAsked, WasAsked, is_ask, is_latch}
use Rattle.node_requests.specs.Onward.{is_some_list, on_behind}
use Rattle.node_requests.specs.Fetching.{Fetches}
use Rattle.node_requests.specs.GivingUp.{GivesInvalidUp}
use Rattle.node_requests.specs.NoneDue.{NoInvalidProposal, NoVerificationToAsk}
use Rattle.node_requests.proofs.Acts.{one_asked}
use Rattle.node_requests.proofs.Seeking.{deeds_then, goes_then, sent_answered}

-- ---- what was latched

module _ {S D P G C : Type 0} where
  -- a proposal that can never stand is a reason that counts
  pub invalid_counts : (v : views.Setup S C) (h : List (views.Point S D P G C)) (view : ℕ) (p : Proposal D) → IsInvalid (member v) (known v h) view p → MayLatch v h view reason.InvalidProposal
  invalid_counts v h view p bad = record { from = bad.waits.opens.from; tracked = inr bad.waits.led.0; heard = λ is. absurd (cc is) }

some_of : {X : Type 0} (o : Option X) → IsSome o → (x : X) × (o ≡ Some x)
some_of (Some x) is = (x, refl)
some_of None is = absurd (false≢true is)

pub none_of : {X : Type 0} (o : Option X) → is_none o ≡ true → o ≡ None
none_of None is = refl
none_of (Some x) is = absurd (false≢true is)

pub both_true : (a b : Bool) → (a && b) ≡ true → (a ≡ true) × (b ≡ true)
both_true true true is = (refl, refl)
both_true true false is = absurd (false≢true is)
both_true false b is = absurd (false≢true is)

true_both : (a b : Bool) → a ≡ true → b ≡ true → (a && b) ≡ true
true_both true true one other = refl
true_both true false one other = absurd (false≢true other)
true_both false b one other = absurd (false≢true one)

-- ---- the same as points of a member

module _ {S D P G C : Type 0} (g : Ghosts S D P G C) (f : Formats S D P G C) (s : Setup S D C) where
  -- views were given up on the way to a history of the voter: nothing is handed out for that, and nothing else changed
  pub record HasGivenUp (h : History S D P G C) (voted : List (views.Point S D P G C)) : Type 0 where
    pub points : List (Point S D P G C)
    pub end : History S D P G C
    pub are_latches : All (λ p. is_latch p ≡ true) points
    pub goes : Goes g f s h points end
    pub voter_is : voter_of s end ≡ voted
    pub no_deeds : all_deeds g f s h points ≡ []
    pub repair_is : repair_of f end ≡ repair_of f h
    pub remembered_is : remembered end ≡ remembered h
    pub finalized_is : finalized_of s end ≡ finalized_of s h
    pub begun : is_begun end ≡ true

  pub gives_up : (h : History S D P G C) (voted : List (views.Point S D P G C)) (k : HasGivenUp h voted) (view : ℕ) (p : Proposal D) → IsInvalid (member_of s) (known s.voter voted) view p → past.is_unlatched (seen s.voter voted view) ≡ true
      → HasGivenUp h (latched (latest h) view reason.InvalidProposal ∷ voted)
  gives_up h voted k view p bad is_first =
      let x : Point S D P G C = Latches view reason.InvalidProposal in
      let here : IsInvalid (member_of s) (known_of s k.end) view p = subst (λ (v : List (views.Point S D P G C)). IsInvalid (member_of s) (known s.voter v) view p) (sym k.voter_is) bad in
      let items : List (Item S D P G C) = seen s.voter (voter_of s k.end) view in
      let both = both_true (past.is_undecided items) (is_none (past.latch items)) (subst (λ (v : List (views.Point S D P G C)). past.is_unlatched (seen s.voter v view) ≡ true) (sym k.voter_is) is_first) in
      let may : Allowed g f s k.end x = record {
        order = k.begun;
        due = record { there = (p, here); counts = invalid_counts s.voter (voter_of s k.end) view p here; first = none_of (past.latch items) both.1; undecided = both.0 };
        fits = tt;
        readable = tt;
      } in
      record {
        points = k.points ++ x ∷ [];
        end = x ∷ k.end;
        are_latches = All-push (λ (q : Point S D P G C). is_latch q ≡ true) k.points x k.are_latches refl;
        goes = goes_then g f s h k.end (x ∷ k.end) k.points (x ∷ []) k.goes (may, refl);
        voter_is =
            ap (λ (r : Remembered D P). latched r.moment view reason.InvalidProposal ∷ voter_of s k.end) k.remembered_is
            ∙ ap (λ (v : List (views.Point S D P G C)). latched (latest h) view reason.InvalidProposal ∷ v) k.voter_is;
        no_deeds = deeds_then g f s h k.end k.points (x ∷ []) k.goes ∙ (append-nil (all_deeds g f s h k.points) ∙ k.no_deeds);
        repair_is = k.repair_is;
        remembered_is = k.remembered_is;
        finalized_is = k.finalized_is;
        begun = k.begun;
      }

  pub gives_up_on_way : (h : History S D P G C) (first view : ℕ) (voted : List (views.Point S D P G C)) → is_begun h ≡ true → Scanned s.voter (latest h) first (voter_of s h) view voted → HasGivenUp h voted
  gives_up_on_way h first view voted is begun = record {
    points = [];
    end = h;
    are_latches = All-nil (λ (q : Point S D P G C). is_latch q ≡ true);
    goes = refl;
    voter_is = refl;
    no_deeds = refl;
    repair_is = refl;
    remembered_is = refl;
    finalized_is = refl;
    begun = is;
  }
  gives_up_on_way h first view voted is (passed {view = w} scanned idle) = gives_up_on_way h first w voted is scanned
  gives_up_on_way h first view voted is (given_up {view = w} {end = so_far} scanned bad is_first) = gives_up h so_far (gives_up_on_way h first w so_far is scanned) w bad.0 bad.1 is_first
  gives_up_on_way h first view voted is (left_so {view = w} scanned bad isnt) = gives_up_on_way h first w voted is scanned

  -- the tables stand there too
  pub tables_behind : (h : History S D P G C) (voted : List (views.Point S D P G C)) (tables : Tables S D P G C) (k : HasGivenUp h voted) → KeepsTables (finalized_of s h) tables h → KeepsTables (finalized_of s k.end) tables k.end
  tables_behind h voted tables k are =
      subst (λ (n : ℕ). Tells n tables (remembered k.end)) (sym k.finalized_is)
      (subst (λ (r : Remembered D P). Tells (finalized_of s h) tables r) (sym k.remembered_is) are)

  pub number_behind : (h : History S D P G C) (voted : List (views.Point S D P G C)) (k : HasGivenUp h voted) → HasNumber h → HasNumber k.end
  number_behind h voted k left = subst (λ (r : Remembered D P). r.number < 2 ^ 64 - 1) (sym k.remembered_is) left

latch_is_ask : {S D P G C : Type 0} (p : Point S D P G C) → is_latch p ≡ true → is_ask p ≡ true
latch_is_ask (Latches view why) is = refl
latch_is_ask p is = absurd (false≢true is)

pub latches_are_asks : {S D P G C : Type 0} (points : List (Point S D P G C)) → All (λ (p : Point S D P G C). is_latch p ≡ true) points → All (λ (p : Point S D P G C). is_ask p ≡ true) points
latches_are_asks points are = All-weaker (λ p. is_latch p ≡ true) (λ p. is_ask p ≡ true) latch_is_ask points are

module _ {S L D P G C : Type 0} (g : Ghosts S D P G C) (e : elector.Ghosts L S D P G C) (f : Formats S D P G C) (s : Setup S D C) where
  -- behind views that were given up these points were asked for
  pub asked_behind : (voter : State S L D P G C) (tables : Tables S D P G C) (h : History S D P G C) (voted : List (views.Point S D P G C)) (k : HasGivenUp g f s h voted) (points : List (Point S D P G C)) (end : History S D P G C) (before after : List (Action S D P G C))
      → HasAsked g e f s voter tables k.end points end before after → points ≢ [] → WasAsked g e f s voter tables h before after
  asked_behind voter tables h voted k points end before after more some = record {
    points = k.points ++ points;
    end = end;
    asked = record {
      are_asks = All-append (λ (p : Point S D P G C). is_ask p ≡ true) k.points points (latches_are_asks k.points k.are_latches) more.are_asks;
      goes = goes_then g f s h k.end end k.points points k.goes more.goes;
      voter_is = more.voter_is;
      tables_are = more.tables_are;
      acts = hands_as f before after (all_deeds g f s h (k.points ++ points)) (all_deeds g f s k.end points)
          (deeds_then g f s h k.end k.points points k.goes ∙ ap (λ l. l ++ all_deeds g f s k.end points) k.no_deeds) more.acts;
    };
    some = on_behind k.points points some;
  }

  -- nothing is left to be asked where a look passed all that may be spoken of
  nothing_left : ScanLeavesNoReason S D P G C → ScanChangesNothing S D P G C → (voter : State S L D P G C) (now : ℕ) (end : History S D P G C) (h voted : List (views.Point S D P G C)) (last : ℕ)
      → voter_of s end ≡ voted → Scanned s.voter now (current s.voter h) h last voted → ((u : ℕ) → AdmitsOutbound s.voter.length s.voter.optimistic_views (current s.voter voted) u → u < last)
      → ((u : ℕ) → AsksNothing (member_of s) (known s.voter voted) u) → NoVerificationToAsk g f s end
  nothing_left reason_law scan_law voter now end h voted last is scanned whole idle =
      let idle_here : (u : ℕ) → AsksNothing (member_of s) (known_of s end) u = λ u. subst (λ (v : List (views.Point S D P G C)). AsksNothing (member_of s) (known s.voter v) u) (sym is) (idle u) in
      record {
        none_invalid = λ view due. never_due view due;
        no_verify = λ left view p payload. (idle_here view).no_verify p payload;
        none_missing = λ left view u what. no_missing idle_here view u what;
      }
    where
      no_missing : ((u : ℕ) → AsksNothing (member_of s) (known_of s end) u) → (view u : ℕ) (what : repair.Kind) → IsMissing (member_of s) (known_of s end) view what u → ⊥
      no_missing rest view u kind.Nullification missing = (rest view).no_nullification missing.0 u missing.1
      no_missing rest view u kind.Notarization missing = (rest view).no_notarization missing.0 missing.1

      never : (v : List (views.Point S D P G C)) → v ≡ voted → (view : ℕ) (p : Proposal D) → IsInvalid (member_of s) (known s.voter v) view p → past.is_undecided (seen s.voter v view) ≡ true → past.latch (seen s.voter v view) ≡ None → ⊥
      never v same view p bad undecided none =
          let bad_there : IsInvalid (member_of s) (known s.voter voted) view p = subst (λ w. IsInvalid (member_of s) (known s.voter w) view p) same bad in
          let from : current s.voter voted ≤ view = bad_there.waits.opens.from in
          let unmoved : current s.voter voted ≡ current s.voter h = ap (λ (k : Known D). k.current) (scan_law s.voter now (current s.voter h) h last voted scanned) in
          let unlatched : past.is_unlatched (seen s.voter v view) ≡ true =
          true_both (past.is_undecided (seen s.voter v view)) (is_none (past.latch (seen s.voter v view))) undecided (ap (λ (o : Option (ℕ × TimeoutReason)). is_none o) none) in
          false≢true (sym (reason_law s.voter now (current s.voter h) h last voted scanned view p (omega (arith, from, unmoved)) (whole view bad_there.waits.opens.outbound) bad_there)
          ∙ (ap (λ w. past.is_unlatched (seen s.voter w view)) (sym same) ∙ unlatched))

      never_due : (view : ℕ) → LatchIsDue g f s end view reason.InvalidProposal → ⊥
      never_due view due = never (voter_of s end) is view due.there.0 due.there.1 due.undecided due.first

  -- where the voter waits nothing was left
  pub waits : ScanLeavesNoReason S D P G C → ScanChangesNothing S D P G C → (voter : State S L D P G C) (tables : Tables S D P G C) (h : History S D P G C) (now : ℕ) (actions : List (Action S D P G C)) → is_begun h ≡ true → now ≡ latest h
      → KeepsTables (finalized_of s h) tables h → Answers g e s.voter voter now (voter_of s h) verify.Wait → HadNothingToAsk g e f s is_latch (NoVerificationToAsk g f s) voter tables h actions actions
  waits reason_law scan_law voter tables h now actions live at tables_are answer =
      let last = answer.0 in
      let look = answer.1 in
      let scanned : Scanned s.voter (latest h) (current s.voter (voter_of s h)) (voter_of s h) last look.end = subst (λ (t : ℕ). Scanned s.voter t (current s.voter (voter_of s h)) (voter_of s h) last look.end) at look.looked in
      let k : HasGivenUp g f s h look.end = gives_up_on_way g f s h (current s.voter (voter_of s h)) last look.end live scanned in
      record {
        points = k.points;
        end = k.end;
        are_kind = k.are_latches;
        asked = record {
          are_asks = latches_are_asks k.points k.are_latches;
          goes = k.goes;
          voter_is = subst (λ (v : List (views.Point S D P G C)). voting.Keeps g e s.voter voter v) (sym k.voter_is) look.holds.keeps;
          tables_are = tables_behind g f s h look.end tables k tables_are;
          acts = hands_as f actions actions (all_deeds g f s h k.points) [] k.no_deeds (nothing_more f actions);
        };
        none = nothing_left reason_law scan_law voter (latest h) k.end (voter_of s h) look.end last k.voter_is scanned look.holds.whole look.holds.idle;
      }

  -- behind the views that were given up a verification is asked for
  pub verification_asked : (voter : State S L D P G C) (tables more : Tables S D P G C) (h : History S D P G C) (now : ℕ) (context : Context D P) (p : Proposal D) (before after : List (Action S D P G C)) → is_begun h ≡ true → now ≡ latest h → HasNumber h
      → KeepsTables (finalized_of s h) tables h → Answers g e s.voter voter now (voter_of s h) (verify.Ready context p)
      → ((low : ℕ) (x : History S D P G C) → KeepsTables low tables x → KeepsTables low more (AsksVerify (next_number x) context p ∷ x))
      → ((low : ℕ) (x : History S D P G C) → KeepsTables low tables x → AddsDeeds f before after (Verifies (next_number x) context p ∷ []))
      → WasAsked g e f s voter more h before after
  verification_asked voter tables more h now context p before after live at left tables_are look tells acts =
      let first = current s.voter (voter_of s h) in
      let scanned : Scanned s.voter (latest h) first (voter_of s h) context.round.view look.end = subst (λ (t : ℕ). Scanned s.voter t first (voter_of s h) context.round.view look.end) at look.looked in
      let k : HasGivenUp g f s h look.end = gives_up_on_way g f s h first context.round.view look.end live scanned in
      let x : Point S D P G C = AsksVerify (next_number k.end) context p in
      let asks : AsksVerification g e s.voter voter (voter_of s k.end) context p = subst (λ (v : List (views.Point S D P G C)). AsksVerification g e s.voter voter v context p) (sym k.voter_is) look.holds in
      let there : KeepsTables (finalized_of s k.end) tables k.end = tables_behind g f s h look.end tables k tables_are in
      let may : Allowed g f s k.end x = record {
        order = k.begun;
        due = record { left = number_behind g f s h look.end k left; next = refl; due = asks.due; parent = asks.parent; epoch = asks.epoch; leader = asks.leader };
        fits = tt;
        readable = tt;
      } in
      asked_behind voter more h look.end k (x ∷ []) (x ∷ k.end) before after (record {
        are_asks = All-cons (λ (q : Point S D P G C). is_ask q ≡ true) x [] refl (All-nil (λ (q : Point S D P G C). is_ask q ≡ true));
        goes = (may, refl);
        voter_is = asks.keeps;
        tables_are = tells (finalized_of s k.end) k.end there;
        acts = acts (finalized_of s k.end) k.end there;
      }) (is_some_list x [])

  -- or the certificate that a proposal lacks, of whoever leads its view
  pub certificate_asked : WhatIsKnownStays S D P G C → (voter : State S L D P G C) (tables more : Tables S D P G C) (h : History S D P G C) (now proposal view : ℕ) (what : repair.Kind) (target : P) (to : Option ℕ) (before after : List (Action S D P G C)) (sent : Bool)
      → is_begun h ≡ true → now ≡ latest h → KeepsTables (finalized_of s h) tables h → Answers g e s.voter voter now (voter_of s h) (verify.Resolve proposal view what target)
      → ((v : views.Setup S C) (x : List (views.Point S D P G C)) → voting.Keeps g e v voter x → to ≡ leader v x proposal)
      → ((x : History S D P G C) → repair_of f x ≡ repair_of f h → KeepsTables (finalized_of s x) tables x → Fetches f s more x (record { view = view; ask = ancestry what; to = to }) before after sent)
      → WasAsked g e f s voter more h before after
  certificate_asked known_law voter tables more h now proposal view what target to before after sent live at tables_are look led fetches =
      let first = current s.voter (voter_of s h) in
      let scanned : Scanned s.voter (latest h) first (voter_of s h) proposal look.end = subst (λ (t : ℕ). Scanned s.voter t first (voter_of s h) proposal look.end) at look.looked in
      let k : HasGivenUp g f s h look.end = gives_up_on_way g f s h first proposal look.end live scanned in
      let asks : AsksCertificate g e s.voter voter (voter_of s k.end) proposal view what target = subst (λ (v : List (views.Point S D P G C)). AsksCertificate g e s.voter voter v proposal view what target) (sym k.voter_is) look.holds in
      let index = some_of (leader s.voter (voter_of s k.end) proposal) (is_led k.end what view asks.missing) in
      let of : to ≡ Some index.0 = led s.voter (ancestry_asked proposal view ∷ voter_of s k.end) asks.keeps
      ∙ (known_law s.voter (voter_of s k.end) proposal (ancestry_asked proposal view) tt).leader index.0 index.1 in
      let came : Fetches f s more k.end (record { view = view; ask = ancestry what; to = Some index.0 }) before after sent =
      subst (λ (o : Option ℕ). Fetches f s more k.end (record { view = view; ask = ancestry what; to = o }) before after sent) of
      (fetches k.end k.repair_is (tables_behind g f s h look.end tables k tables_are)) in
      resolves k.end look.end k index.0 asks index.1 sent came
    where
      is_led : (x : History S D P G C) (what : repair.Kind) (u : ℕ) → IsMissing (member_of s) (known_of s x) proposal what u → IsSome (leader s.voter (voter_of s x) proposal)
      is_led x kind.Nullification u missing = missing.1.waits.led.0
      is_led x kind.Notarization u missing = missing.1.waits.led.0

      resolves : (at : History S D P G C) (voted : List (views.Point S D P G C)) (k : HasGivenUp g f s h voted) (index : ℕ) → AsksCertificate g e s.voter voter (voter_of s k.end) proposal view what target
          → leader s.voter (voter_of s k.end) proposal ≡ Some index → (b : Bool) → Fetches f s more k.end (record { view = view; ask = ancestry what; to = Some index }) before after b → WasAsked g e f s voter more h before after
      resolves at voted k index asks leads true came =
          let a : Point S D P G C = Asks view (ancestry what) (Some index) in
          let r : Point S D P G C = Resolves proposal what view in
          let ask : Allowed g f s k.end a = record { order = k.begun; due = record { sought = inl (what, proposal, refl, asks.missing, leads); first = came.0; within = λ back. absurd (cc (ap (λ (q : Ask). q.until) back)) }; fits = tt; readable = tt } in
          let may : Allowed g f s (a ∷ k.end) r = record {
            order = k.begun;
            due = record { missing = asks.missing; index = index; leads = leads; asked = inr (Contains-head (record { view = view; ask = ancestry what; to = Some index }) (asks_of k.end)) };
            fits = tt;
            readable = tt;
          } in
          asked_behind voter more h voted k (a ∷ r ∷ []) (r ∷ a ∷ k.end) before after (record {
            are_asks = All-cons (λ (q : Point S D P G C). is_ask q ≡ true) a (r ∷ []) refl (All-cons (λ (q : Point S D P G C). is_ask q ≡ true) r [] refl (All-nil (λ (q : Point S D P G C). is_ask q ≡ true)));
            goes = (ask, (may, refl));
            voter_is = asks.keeps;
            tables_are = came.1;
            acts = came.2;
          }) (is_some_list a (r ∷ []))
      resolves at voted k index asks leads false came =
          let r : Point S D P G C = Resolves proposal what view in
          let may : Allowed g f s k.end r = record { order = k.begun; due = record { missing = asks.missing; index = index; leads = leads; asked = sent_answered g f s k.end view (ancestry what) (Some index) came.0 }; fits = tt; readable = tt } in
          asked_behind voter more h voted k (r ∷ []) (r ∷ k.end) before after (record {
            are_asks = All-cons (λ (q : Point S D P G C). is_ask q ≡ true) r [] refl (All-nil (λ (q : Point S D P G C). is_ask q ≡ true));
            goes = (may, refl);
            voter_is = asks.keeps;
            tables_are = came.1;
            acts = subst (λ (l : List (Action S D P G C)). AddsDeeds f before l []) (sym came.2) (nothing_more f before);
          }) (is_some_list r [])

  -- a proposal that can never stand is the first reason to give its view up, or none that is due
  pub gives_invalid_up : (new : State S L D P G C) (h : History S D P G C) (view now : ℕ) (first : Bool) → latest h ≡ now → ((p : Proposal D) × IsInvalid (member_of s) (known_of s h) view p)
      → (MayLatch s.voter (voter_of s h) view reason.InvalidProposal → voting.Keeps g e s.voter new (latched now view reason.InvalidProposal ∷ voter_of s h))
      → (first ≡ false → voting.Keeps g e s.voter new (voter_of s h)) → IsTrue first ↔ IsFirstLatch s.voter (voter_of s h) view reason.InvalidProposal → GivesInvalidUp g e f s new h view first
  gives_invalid_up new h view now true at bad latches stays is =
      let is_first = is.0 refl in
      let both = both_true (past.is_undecided (seen s.voter (voter_of s h) view)) (is_none (past.latch (seen s.voter (voter_of s h) view))) is_first.first in (
        record { there = bad; counts = is_first.counts; first = none_of (past.latch (seen s.voter (voter_of s h) view)) both.1; undecided = both.0 },
        subst (λ (t : ℕ). voting.Keeps g e s.voter new (latched t view reason.InvalidProposal ∷ voter_of s h)) (sym at) (latches is_first.counts),
      )
  gives_invalid_up new h view now false at bad latches stays is = (
    λ due. absurd (false≢true (is.1 (record {
      counts = due.counts;
      first = true_both (past.is_undecided (seen s.voter (voter_of s h) view)) (is_none (past.latch (seen s.voter (voter_of s h) view))) due.undecided (ap (λ (o : Option (ℕ × TimeoutReason)). is_none o) due.first);
    }))),
    stays refl,
  )

  -- where another answer was found, none that can never stand is there
  pub none_invalid_up : OneIsFound D → (new : State S L D P G C) (h : History S D P G C) (view : ℕ) (found : VerifyRequest D) → Finds (member_of s) (known_of s h) view found → (found ≡ request.Invalid → ⊥) → voting.Keeps g e s.voter new (voter_of s h)
      → GivesInvalidUp g e f s new h view false
  none_invalid_up one new h view found is other keeps = (
    λ due. other (one (member_of s) (known_of s h) view found request.Invalid is due.there),
    keeps,
  )

  -- ---- all views, one after the other

  -- below this view none is to be given up so, and the voter stands where it did
  pub record NoneBelow (voter : State S L D P G C) (h : History S D P G C) (next : ℕ) : Type 0 where
    pub voter_is : voting.Keeps g e s.voter voter (voter_of s h)
    pub none : (view : ℕ) → view < next → LatchIsDue g f s h view reason.InvalidProposal → ⊥

  pub none_behind : (voter : State S L D P G C) (h : History S D P G C) (next : ℕ) → voting.Keeps g e s.voter voter (voter_of s h) → next ≡ current s.voter (voter_of s h) → NoneBelow voter h next
  none_behind voter h next keeps at = record { voter_is = keeps; none = λ view below due. let from = due.counts.from in omega (arith, below, at, from) }

  -- nothing is known of a view: so it is not to be given up
  unknown : (h : History S D P G C) (view : ℕ) → seen s.voter (voter_of s h) view ≡ [] → leader s.voter (voter_of s h) view ≡ None → LatchIsDue g f s h view reason.InvalidProposal → ⊥
  unknown h view nothing nobody due = ⊎_elim (λ some. some nothing) (λ led. false≢true (sym (ap (λ (o : Option ℕ). is_some o) nobody) ∙ led)) due.counts.tracked

  -- one view more
  pub none_up_to : (voter new : State S L D P G C) (h : History S D P G C) (next view behind : ℕ) → next ≤ view → behind ≡ view + 1 → NoneBelow voter h next → ((u : ℕ) → next ≤ u → u < view → (seen s.voter (voter_of s h) u ≡ []) × (leader s.voter (voter_of s h) u ≡ None))
      → GivesInvalidUp g e f s new h view false → NoneBelow new h behind
  none_up_to voter new h next view behind from is k bare came = record {
    voter_is = came.1;
    none = λ u below due. elim (cases_lt u next) [
      | inl before ↦ k.none u before due
      | inr after ↦ elim (cases_lt u view) [
        | inl between ↦ let bare_here = bare u after between in unknown h u bare_here.0 bare_here.1 due
        | inr not_before ↦
            let same : u ≡ view = omega (arith, not_before, below, is) in
            came.0 (subst (λ (w : ℕ). LatchIsDue g f s h w reason.InvalidProposal) same due)
      ]
    ];
  }

  -- a view without a number of 64 bits is not to be given up
  roomless : (h : History S D P G C) (view : ℕ) → 0 < s.voter.length → 2 ^ 64 ≤ view → LatchIsDue g f s h view reason.InvalidProposal → ⊥
  roomless h view some far due =
      let room = due.there.1.waits.opens.room in
      let end = term_end-above s.voter.length view some in
      omega (arith, room, end, far)

  -- all views
  pub none_at_all : (voter : State S L D P G C) (h : History S D P G C) (next : ℕ) → 0 < s.voter.length → NoneBelow voter h next → ((u : ℕ) → next ≤ u → u < 2 ^ 64 → (seen s.voter (voter_of s h) u ≡ []) × (leader s.voter (voter_of s h) u ≡ None)) → NoInvalidProposal g f s h
  none_at_all voter h next some k bare view due = elim (cases_lt view next) [
    | inl before ↦ k.none view before due
    | inr after ↦ elim (cases_lt view (2 ^ 64)) [
      | inl within ↦ let bare_here = bare view after within in unknown h view bare_here.0 bare_here.1 due
      | inr far ↦ roomless h view some far due
    ]
  ]

  pub none_to_the_last : (voter : State S L D P G C) (h : History S D P G C) (next : ℕ) → 0 < s.voter.length → next ≡ 2 ^ 64 → NoneBelow voter h next → NoInvalidProposal g f s h
  none_to_the_last voter h next some is k view due = elim (cases_lt view next) [
    | inl before ↦ k.none view before due
    | inr after ↦ roomless h view some (omega (arith, after, is)) due
  ]

  -- the first that is given up is an act
  pub gave_up : (new : State S L D P G C) (repair : Repair) (voter : State S L D P G C) (tables : Tables S D P G C) (h : History S D P G C) (view : ℕ) (actions : List (Action S D P G C)) → AskerKeeps g e f s voter repair tables h → GivesInvalidUp g e f s new h view true
      → WasAsked g e f s new tables h actions actions
  gave_up new repair voter tables h view actions k came =
      one_asked g e f s new tables h (Latches view reason.InvalidProposal) actions actions refl
      (record { order = k.begun; due = came.0; fits = tt; readable = tt }) came.1 k.tables_are (nothing_more f actions)
