-- What is answered to an event.
use Rattle.std.proofs.Common.{◌≡◌, ⊎_elim, inl, inr, ℕ, true, List, [], ◌∷◌, ◌++◌, Option, Some, None, Result, Ok, Err, map, refl, sym, subst, append-nil, arith}
use Rattle.std.specs.Prelude.{IfErr, IfOk, IsOk, if◌then◌else◌}
use Rattle.std.specs.declared.alloc.Global.{Global}
use Rattle.std.specs.declared.vec.Vec.{Vec}
use Rattle.std.proofs.lemmas.List.Elements.{All-nil}
use Rattle.std.proofs.lemmas.Option.{none-some}
use Rattle.types_core.specs.declared.scheme.Scheme.{Ghosts}
use Rattle.types_terms.specs.declared.elector.Elector as elector
use Rattle.journal_single.specs.declared.disk.Disk as disk
use Rattle.messages_certificates.specs.declared.artifact.Artifact.{Artifact}
use Rattle.journal_books.specs.declared.books.Books.{Books}
use Rattle.journal_books.specs.Books as words
use Rattle.journal_books.specs.Books.{LeaveBook}
use Rattle.journal_books.specs.BooksLaws.{book_weaker, same_not_failed}
use Rattle.simplex_member.specs.declared.action.Action.{Action}
use Rattle.simplex_member.specs.declared.event.Channel.{Channel}
use Rattle.simplex_member.specs.declared.event.Event.{Event}
use Rattle.simplex_member.specs.declared.event.Event.TheVariants as event
use Rattle.simplex_member.specs.declared.fault.NodeFault.{NodeFault}
use Rattle.simplex_member.specs.declared.fault.NodeFault.TheVariants as step_fault
use Rattle.simplex_member.specs.declared.refusal.Refusal.{Refusal}
use Rattle.simplex_member.specs.Deeds.{AreActions, deeds_of}
use Rattle.simplex_member.specs.First.{IsFirst}
use Rattle.simplex_member.specs.Member.{AreStep, IsPointOf, IsReached}
use Rattle.simplex_member.specs.Packet.{Formats}
use Rattle.simplex_member.specs.Point.{Point, History, is_act}
use Rattle.simplex_member.specs.Recorded.{kept_of}
use Rattle.simplex_member.specs.Refusals.{needs_nothing, refused_deeds, tests}
use Rattle.simplex_member.specs.Setup.{Setup}
use Rattle.node_core.specs.declared.node_state.Core.{Core}
use Rattle.node_core.specs.Keeps.{CoreKeeps}
use Rattle.simplex_member.specs.Member.{IsPacketPoint}
use Rattle.simplex_member.specs.Deeds.{Blocks}
use Rattle.simplex_member.specs.Point.{Heard}
use Rattle.simplex_member.specs.Packet.{Packet, of_vote}
use Rattle.simplex_member.specs.Refusals.{blocks_sender, evidence_deeds, packet_tests, sender_tests}
use Rattle.simplex_member.specs.declared.refusal.Refusal.TheVariants as refusal
use Rattle.simplex_messages.specs.declared.vote.Vote.{Vote}
use Rattle.simplex_messages.specs.VoteParts.{vote_signer}
use Rattle.std.specs.Prelude.{◌≢◌}
use Rattle.node_input.specs.Stepping.{StepsBy}
use Rattle.node_core.specs.Telling.{TellsOfBook, tells_nothing}
use Rattle.node_core.specs.Taking.{IsLeftBy, IsTaken}
use Rattle.node_outbox.specs.Handing.{AddsDeeds}
use Rattle.node_input.specs.Hearing.{IsHeard}
use Rattle.node_core.specs.Keeps.{book_of}
use Rattle.node_input.specs.Refusing.{IsAnother, last_vote_tests, packet_refused_deeds}
use Rattle.node_input.specs.Stepping.{IsHandled}
use Rattle.node_input.proofs.Refusals.{blocks-needs, no-report}
use Rattle.node_input.proofs.Tests.{first-is-one, first-of-rest}
use Rattle.node_input.proofs.Refusals.{packet-needs}

-- of a journal of which nothing was asked nothing is told
pub untouched : {M K A : Type 0} (k : disk.Ghosts K) (on : Books M K) (answer : Result A NodeFault) → IfErr answer (λ why. why ≡ step_fault.Memory) → TellsOfBook k on on answer
untouched k on (Ok x) memory = tells_nothing on x
untouched k on (Err why) memory =
    record { device = λ is. absurd (cc (is, memory)); no_device = λ other. same_not_failed k (words.disks_of on); no_fault = tt; failed = λ is. absurd (cc (is, memory)); stays_open = tt }

module _ {S D P G C : Type 0} (g : Ghosts S D P G C) (f : Formats S D P G C) (s : Setup S D C) (h : History S D P G C) (event : Event D) where
  -- no test refuses an event: then no refusal is due
  pub none-due : {A : Type 0} (answer : Result A NodeFault) → IsFirst (tests g f s h event) None → (r : Refusal) → IsFirst (tests g f s h event) (Some r) → needs_nothing r ≡ true → IsOk answer
  none-due answer none r first needs = absurd (none-some r (first-is-one (tests g f s h event) None (Some r) none first))

module _ {S D P G C : Type 0} {g : Ghosts S D P G C} {f : Formats S D P G C} {s : Setup S D C} {h : History S D P G C} (event : Event D) where
  -- an event that is taken as a point is a step
  pub is-step : {p : Point S D P G C} → IsFirst (tests g f s h event) None → IsPointOf g f s event p → AreStep g f s h event (p ∷ [])
  is-step {p} none of_it = record { passes = none; first = p; acts = []; split = refl; of_it = of_it; own = All-nil (λ (q : Point S D P G C). is_act q ≡ true) }

  reached : (p : Point S D P G C) (read : List (List ℕ)) → IsFirst (tests g f s h event) None → IsPointOf g f s event p → IsLeftBy g f s h p read → IsReached g f s h event read
  reached p read none of_it left = ⊎_elim (λ before. inl before) (λ behind. inr (p ∷ [], p ∷ h, is-step none of_it, (behind.0, refl), behind.1)) left

module _ {S D P G C K : Type 0} (g : Ghosts S D P G C) (f : Formats S D P G C) (s : Setup S D C) (h : History S D P G C) (k : disk.Ghosts K) (old new : Books (Artifact S D P G C) K) (event : Event D) where
  -- a crash leaves what taking the event's point may leave
  pub point-reached : (p : Point S D P G C) → IsFirst (tests g f s h event) None → IsPointOf g f s event p → LeaveBook k old new (IsLeftBy g f s h p) → LeaveBook k old new (IsReached g f s h event)
  point-reached p none of_it leaves = book_weaker k (IsLeftBy g f s h p) (IsReached g f s h event) (λ read left. reached event p read none of_it left) old new leaves

  -- it leaves the record
  pub rest-reached : LeaveBook k old new (λ read. read ≡ map f.artifact (kept_of s.voter.length h)) → LeaveBook k old new (IsReached g f s h event)
  rest-reached leaves = book_weaker k (λ read. read ≡ map f.artifact (kept_of s.voter.length h)) (IsReached g f s h event) (λ read is. inl is) old new leaves

module _ {S L D P G C K : Type 0} {g : Ghosts S D P G C} {e : elector.Ghosts L S D P G C} {k : disk.Ghosts K} {f : Formats S D P G C} {s : Setup S D C} {new : Core S L D K P G C} {h : History S D P G C} (event : Event D) (actions : List (Action S D P G C)) where
  -- an event was taken
  pub stepped : {p : Point S D P G C} → IsFirst (tests g f s h event) None → IsPointOf g f s event p → IsTaken g e k f s new h p [] actions
      → (end : History S D P G C) × StepsBy g f s h event None actions end × CoreKeeps g e k f s new end
  stepped {p} none of_it taken = (
    p ∷ h,
    (
      none,
      record {
        point = p;
        step = is-step event none of_it;
        goes = (taken.keeps.allowed.0, refl);
        are = subst (λ l. AreActions f actions l) (sym (append-nil (deeds_of g f s h p))) (taken.acts [] tt);
      },
    ),
    taken.keeps,
  )

  -- an event was refused
  pub turned-down : (r : Refusal) → IsFirst (tests g f s h event) (Some r) → AreActions f actions (refused_deeds g f s h event r) → CoreKeeps g e k f s new h
      → (end : History S D P G C) × StepsBy g f s h event (Some r) actions end × CoreKeeps g e k f s new end
  turned-down r first acts keeps = (h, (first, (refl, acts)), keeps)

-- of a journal that is the same nothing is told
pub unasked : {M K A : Type 0} (k : disk.Ghosts K) (old new : Books M K) (answer : Result A NodeFault) → new ≡ old → IfErr answer (λ why. why ≡ step_fault.Memory) → TellsOfBook k old new answer
unasked k old new answer same memory = subst (λ (b : _). TellsOfBook k old b answer) (sym same) (untouched k old answer memory)

module _ {S D P G C K : Type 0} (g : Ghosts S D P G C) (f : Formats S D P G C) (s : Setup S D C) (h : History S D P G C) (k : disk.Ghosts K) (old new : Books (Artifact S D P G C) K) (event : Event D) where
  -- where the journal is the same, a crash leaves the record
  pub still-reached : new ≡ old → LeaveBook k old old (λ read. read ≡ map f.artifact (kept_of s.voter.length h)) → LeaveBook k old new (IsReached g f s h event)
  still-reached same leaves = subst (λ (b : Books (Artifact S D P G C) K). LeaveBook k old b (IsReached g f s h event)) (sym same) (rest-reached g f s h k old old event leaves)

module _ {S L D P G C K : Type 0} (g : Ghosts S D P G C) (e : elector.Ghosts L S D P G C) (k : disk.Ghosts K) (f : Formats S D P G C) (s : Setup S D C) (new : Core S L D K P G C) (h : History S D P G C) where
  -- what is handed out behind nothing
  pub from-nothing : (p : Point S D P G C) (before after : List (Action S D P G C)) → before ≡ [] → IsTaken g e k f s new h p before after → IsTaken g e k f s new h p [] after
  from-nothing p before after none taken = subst (λ (l : List (Action S D P G C)). IsTaken g e k f s new h p l after) none taken

  -- a vote was heard, or refused for other votes
  pub heard-stepped : (sender : ℕ) (by : Channel) (bytes : Vec ℕ Global) (v : Vote S D P G C) (refused : Option Refusal) (actions : List (Action S D P G C)) → f.packet_in by bytes.items ≡ Some (of_vote v) → vote_signer v ≡ sender
      → ((answer : Option Refusal) → IsFirst (last_vote_tests g f s h sender v) answer → IsFirst (tests g f s h (event.Packet sender by bytes)) answer) → IsHeard g e k f s new h sender v refused [] actions
      → (end : History S D P G C) × StepsBy g f s h (event.Packet sender by bytes) refused actions end × CoreKeeps g e k f s new end
  heard-stepped sender by bytes v None actions found signer all heard = stepped (event.Packet sender by bytes) actions (all None heard.0)
      (subst (λ (o : Option (Packet S D P G C)). IsPacketPoint sender o (Heard v)) (sym found) (refl, signer)) heard.1
  heard-stepped sender by bytes v (Some r) actions found signer all heard = turned-down (event.Packet sender by bytes) actions r (all (Some r) heard.0)
      (subst (λ (o : Option (Packet S D P G C)). AreActions f actions (packet_refused_deeds g f s h sender o r)) (sym found) (heard.1.acts [] tt)) heard.1.keeps

module _ {S D P G C : Type 0} (g : Ghosts S D P G C) (f : Formats S D P G C) (s : Setup S D C) (h : History S D P G C) where
  -- no sender test applies to another member
  pub another-passes : (sender : ℕ) → IsAnother g f s sender → IsFirst (sender_tests g f s sender) None
  another-passes sender a = inr (λ out. absurd (omega (arith, a.member, out)), inr (a.another, refl))

  -- of a packet of another member no refusal comes that needs nothing
  pub packet-wants : {A : Type 0} (answer : Result A NodeFault) (sender : ℕ) (by : Channel) (bytes : Vec ℕ Global) → IsAnother g f s sender → (r : Refusal) → IsFirst (tests g f s h (event.Packet sender by bytes)) (Some r) → needs_nothing r ≡ true → IsOk answer
  packet-wants answer sender by bytes a r first needs = absurd (cc (
    packet-needs g f s h sender (f.packet_in by bytes.items) r
        (first-of-rest (sender_tests g f s sender) (packet_tests g f s h sender (f.packet_in by bytes.items)) (Some r) (another-passes sender a) first),
    needs,
  ))

module _ {S L D P G C K : Type 0} (g : Ghosts S D P G C) (e : elector.Ghosts L S D P G C) (k : disk.Ghosts K) (f : Formats S D P G C) (s : Setup S D C) (old new : Core S L D K P G C) (h : History S D P G C) where
  -- an event was answered, beside the actions
  pub handled-so : (event : Event D) (before after : List (Action S D P G C)) (answer : Result (Option Refusal) NodeFault) → before ≡ after → IsHandled g e k f s old new h event before answer → IsHandled g e k f s old new h event after answer
  handled-so event before after answer same handled = subst (λ (l : List (Action S D P G C)). IsHandled g e k f s old new h event l answer) same handled

  -- a vote of another member was heard, or refused for other votes, or there was no memory for it
  pub heard-handled : (sender : ℕ) (by : Channel) (bytes : Vec ℕ Global) (v : Vote S D P G C) (before after : List (Action S D P G C)) (answer : Result (Option Refusal) NodeFault) → before ≡ [] → IsAnother g f s sender → f.packet_in by bytes.items ≡ Some (of_vote v) → vote_signer v ≡ sender
      → ((answer : Option Refusal) → IsFirst (last_vote_tests g f s h sender v) answer → IsFirst (tests g f s h (event.Packet sender by bytes)) answer) → IfOk answer (λ refused. IsHeard g e k f s new h sender v refused before after)
      → (k.keeps → LeaveBook k (book_of old) (book_of new) (IsReached g f s h (event.Packet sender by bytes)))
      → IsHandled g e k f s old new h (event.Packet sender by bytes) after answer
  heard-handled sender by bytes v before after (Ok refused) none another found signer all heard moment = record {
    ok = heard-stepped g e k f s new h sender by bytes v refused after found signer all (subst (λ (l : List (Action S D P G C)). IsHeard g e k f s new h sender v refused l after) none heard);
    any_moment = moment;
    without_memory = λ r first needs. refl;
  }
  heard-handled sender by bytes v before after (Err why) none another found signer all heard moment = record {
    ok = tt;
    any_moment = moment;
    without_memory = packet-wants g f s h {A = Option Refusal} (Err why) sender by bytes another;
  }

module _ {S L D P G C K : Type 0} (g : Ghosts S D P G C) (e : elector.Ghosts L S D P G C) (k : disk.Ghosts K) (f : Formats S D P G C) (s : Setup S D C) (node : Core S L D K P G C) (h : History S D P G C) where
  -- a packet was refused, for no contradiction
  pub refused-handled : (sender : ℕ) (by : Channel) (bytes : Vec ℕ Global) (r : Refusal) (before after : List (Action S D P G C)) → before ≡ [] → IsFirst (tests g f s h (event.Packet sender by bytes)) (Some r) → r ≢ refusal.Contradiction
      → AddsDeeds f before after (if blocks_sender r then Blocks sender ∷ [] else [])
      → CoreKeeps g e k f s node h → (k.keeps → LeaveBook k (book_of node) (book_of node) (λ read. read ≡ map f.artifact (kept_of s.voter.length h)))
      → IsHandled g e k f s node node h (event.Packet sender by bytes) after (Ok (Some r))
  refused-handled sender by bytes r before after none first other acts keeps leaves =
      let deeds = evidence_deeds g f s h sender (f.packet_in by bytes.items) in
      let front = if blocks_sender r then Blocks sender ∷ [] else [] in
      let start : AreActions f before [] = subst (λ (l : List (Action S D P G C)). AreActions f l []) (sym none) tt in
      let all : AreActions f after (refused_deeds g f s h (event.Packet sender by bytes) r) = subst (λ (l : List _). AreActions f after (front ++ l)) (sym (no-report g f s r deeds other)) (subst (λ (l : List _). AreActions f after l) (sym (append-nil front)) (acts [] start)) in
      record {
        ok = turned-down (event.Packet sender by bytes) after r first all keeps;
        any_moment = λ it. rest-reached g f s h k (book_of node) (book_of node) (event.Packet sender by bytes) (leaves it);
        without_memory = λ q due needs. refl;
      }

  -- or there was no memory for it
  pub refused-unhandled : (sender : ℕ) (by : Channel) (bytes : Vec ℕ Global) (r : Refusal) (why : NodeFault) (after : List (Action S D P G C)) → IsFirst (tests g f s h (event.Packet sender by bytes)) (Some r) → blocks_sender r ≡ true
      → (k.keeps → LeaveBook k (book_of node) (book_of node) (λ read. read ≡ map f.artifact (kept_of s.voter.length h)))
      → IsHandled g e k f s node node h (event.Packet sender by bytes) after (Err why)
  refused-unhandled sender by bytes r why after first memory leaves = record {
    ok = tt;
    any_moment = λ it. rest-reached g f s h k (book_of node) (book_of node) (event.Packet sender by bytes) (leaves it);
    without_memory = λ q due needs. absurd (cc (blocks-needs r memory, first-is-one (tests g f s h (event.Packet sender by bytes)) (Some r) (Some q) first due, needs));
  }
