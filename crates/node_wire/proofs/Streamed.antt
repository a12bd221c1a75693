-- How what steps over a stream come to comes together.
use Rattle.std.proofs.Common.{◌≡◌, ◌≢◌, ◌⊎◌, inl, inr, ℕ, ◌+◌, ◌<◌, ◌^◌, List, [], ◌∷◌, ◌++◌, length, map, All, arith, append_assoc, refl, sym, ap, ◌∙◌, subst, append-nil, length-append, Option, Some, None, IfSome}
use Rattle.std.specs.Prelude.{Result, Ok, Err, IfErr, OnOk}
use Rattle.std.specs.List.{flat_map}
use Rattle.std.specs.Io.KnownBytes.{Appends, Consumes, IsAtEnd, Keeps}
use Rattle.std.proofs.KnownBytes.{Appends-kept, Appends-nil, Appends-trans, Consumes-nil, Consumes-trans}
use Rattle.std.proofs.lemmas.Grind.{flat_map-append}
use Rattle.std.proofs.lemmas.List.Elements.{All-cons, All-nil}
use Rattle.types_codec.specs.declared.codec.CodecError.{CodecError}
use Rattle.simplex_member.specs.declared.action.Reply.{Reply}
use Rattle.simplex_member.specs.declared.event.Event.{Event}
use Rattle.simplex_member.specs.declared.fault.IoFault.{IoFault}
use Rattle.simplex_member.specs.declared.fault.IoFault.TheVariants as fault
use Rattle.simplex_member.specs.declared.fault.NodeFault.{NodeFault}
use Rattle.node_wire.specs.Event.{IsEvent, event_spelling, event_value}
use Rattle.node_wire.specs.Stream.{AreEvents, HasNone, InputState, IsFault, IsGivenUp, IsTaken}
use Rattle.types_codec.specs.Front.{AppendsFront}
use Rattle.node_wire.specs.Amid.{AnswersSome, StandsBehind, StepsOver, StopsAmid, StopsIn, bytes_of}
use Rattle.node_wire.specs.declared.stretch.Stretch.{Stretch}
use Rattle.node_wire.specs.declared.stretch.Stretch.TheVariants.{Ended, Paused}
use Rattle.node_wire.specs.Stepper.{Answer, AnswerBefore, AnswersNone, Behind, FailsBehind}
use Rattle.node_wire.specs.Streaming.{AnswersAll, AnswersFront, AnswersOne, BreaksOff, EndsIn, Fails, GivesUp, StandInFront}
use Rattle.node_wire.proofs.Answered.{answer_on}
use Rattle.node_wire.proofs.TakenOff.{all_taken_off, bytes_append, bytes_more, each_append, in_front, none_behind, taken_more}
use Rattle.node_wire.proofs.Texts.{text_more}
use Rattle.node_wire.specs.Over.{ends_as}

module _ {S D P G C N : Type 0} (steps : N → Event D → Result (Reply S D P G C) NodeFault → N → Type 0) where
  -- what came of an event, by what came of the reply's writing
  pub one_answered : {A : Type 0} (w : Reply S D P G C → List ℕ) (written : Result A IoFault) (old new : N) (event : Event D) (reply : Reply S D P G C) (text more : Option (List ℕ))
      → steps old event (Ok reply) new → OnOk written (Appends text more (w reply)) → AppendsFront text more (w reply) → (written ≡ Err fault.Memory → Keeps text more)
      → IfErr written (λ why. (why ≡ fault.Memory) ⊎ (why ≡ fault.Write)) → AnswersOne steps w old event written text more new
  one_answered w (Ok x) old new event reply text more step whole front memory faults = (reply, step, whole)
  one_answered w (Err fault.Read) old new event reply text more step whole front memory faults = elim faults [ inl is ↦ absurd cc | inr is ↦ absurd cc ]
  one_answered w (Err fault.Write) old new event reply text more step whole front memory faults = (reply, step, front)
  one_answered w (Err (fault.BadEvent place)) old new event reply text more step whole front memory faults = elim faults [ inl is ↦ absurd cc | inr is ↦ absurd cc ]
  one_answered w (Err (fault.Node why)) old new event reply text more step whole front memory faults = elim faults [ inl is ↦ absurd cc | inr is ↦ absurd cc ]
  one_answered w (Err fault.Memory) old new event reply text more step whole front memory faults = (reply, step, memory refl)

  -- where no step answers, none did
  pub none_went : (old mid new : N) (event : Event D) (reply : Reply S D P G C) → AnswersNone steps old → mid ≡ old → steps mid event (Ok reply) new → ⊥
  none_went old mid new event reply none same step = none event reply new (subst (λ (x : N). steps x event (Ok reply) new) same step)

  -- where no step answers, what was not touched at a failed step was not touched
  pub none_touched : (A W : Type 0) (w : Reply S D P G C → List ℕ) (mid new : N) (event : Event D) (why : IoFault) (text more : Option (List ℕ)) (x y : W) → AnswersNone steps mid → AnswersOne steps {A = A} w mid event (Err why) text more new
      → ((n : NodeFault) → why ≡ fault.Node n → y ≡ x) → y ≡ x
  none_touched A W w mid new event fault.Read text more x y none came same = absurd came
  none_touched A W w mid new event fault.Write text more x y none (reply, step, front) same = absurd (none event reply new step)
  none_touched A W w mid new event (fault.BadEvent place) text more x y none came same = absurd came
  none_touched A W w mid new event (fault.Node why) text more x y none came same = same why refl
  none_touched A W w mid new event fault.Memory text more x y none (reply, step, kept) same = absurd (none event reply new step)

  -- one step more, behind those before
  behind_on : (before : List (Event D)) (said : List (Reply S D P G C)) (old mid new : N) (events : List (Event D)) (replies : List (Reply S D P G C)) (e : Event D) (reply : Reply S D P G C)
      → Behind before said (Answer steps old mid) events replies → steps mid e (Ok reply) new → Behind before said (Answer steps old new) (events ++ e ∷ []) (replies ++ reply ∷ [])
  behind_on before said old mid new events replies e reply b step = record {
    later = b.later ++ e ∷ [];
    answers = b.answers ++ reply ∷ [];
    split = ap (λ (l : List (Event D)). l ++ e ∷ []) b.split ∙ append_assoc before b.later (e ∷ []);
    replied = ap (λ (l : List (Reply S D P G C)). l ++ reply ∷ []) b.replied ∙ append_assoc said b.answers (reply ∷ []);
    answered = answer_on steps b.later b.answers old mid new e reply b.answered step;
  }

  module _ (F : D → Type 0) (p : D → List ℕ) (w : Reply S D P G C → List ℕ) where
    -- since an input stood so, events were taken and answered, and the replies were written
    pub record StreamsOn (old : N) (from : InputState) (given left : Option (List ℕ)) (state : InputState) (text more : Option (List ℕ)) (new : N) : Type 0 where
      pub events : List (Event D)
      pub each : All (IsEvent F) (map event_value events)
      pub bytes : Consumes given left (bytes_of p events)
      pub place : state.place ≡ from.place + length (bytes_of p events)
      pub count : state.taken ≡ from.taken + length events
      pub replies : List (Reply S D P G C)
      pub answered : Answer steps old new events replies
      pub written : Appends text more (flat_map w replies)

    -- none at first
    pub goes_none : (given : Option (List ℕ)) (state : InputState) (text : Option (List ℕ)) (old : N) → StreamsOn old state given given state text text old
    goes_none given state text old = record {
      events = [];
      each = All-nil (IsEvent F);
      bytes = Consumes-nil given;
      place = omega arith;
      count = omega arith;
      replies = [];
      answered = refl;
      written = Appends-nil text;
    }

    -- one more
    pub goes_one : (old mid new : N) (from : InputState) (given left rest : Option (List ℕ)) (state after : InputState) (text now more : Option (List ℕ)) (event : Event D) → StreamsOn old from given left state text now mid
        → IsTaken F p (event_value event) state left after rest → ((reply : Reply S D P G C) × steps mid event (Ok reply) new × Appends now more (w reply)) → StreamsOn old from given rest after text more new
    goes_one old mid new from given left rest state after text now more event so_far took (reply, step, written) = record {
      events = so_far.events ++ event ∷ [];
      each = each_append F p so_far.events (event ∷ []) so_far.each (All-cons (IsEvent F) (event_value event) [] took.event (All-nil (IsEvent F)));
      bytes = subst (Consumes given rest) (sym (bytes_more F p so_far.events event)) (Consumes-trans given left rest (bytes_of p so_far.events) (event_spelling p (event_value event)) so_far.bytes took.bytes);
      place = omega (arith, so_far.place, took.place, ap length (bytes_more F p so_far.events event), length-append (bytes_of p so_far.events) (event_spelling p (event_value event)));
      count = omega (arith, so_far.count, took.taken, length-append so_far.events (event ∷ []));
      replies = so_far.replies ++ reply ∷ [];
      answered = answer_on steps so_far.events so_far.replies old mid new event reply so_far.answered step;
      written = subst (Appends text more) (sym (text_more w so_far.replies reply)) (Appends-trans text now more (flat_map w so_far.replies) (w reply) so_far.written written);
    }

    -- they stand at the front of what was left
    front_of : (given left : Option (List ℕ)) (events : List (Event D)) → All (IsEvent F) (map event_value events) → Consumes given left (bytes_of p events) → IfSome given (StandInFront F p events)
    front_of None left events each bytes = tt
    front_of (Some xs) None events each bytes = absurd bytes
    front_of (Some xs) (Some rest) events each bytes = (rest, record { each = each; whole = bytes })

    -- so they were stepped over
    pub steps_some : (old new : N) (from : InputState) (given left : Option (List ℕ)) (state : InputState) (text more : Option (List ℕ)) → StreamsOn old from given left state text more new → AnswersSome F p (Answer steps old new) given
    steps_some old new from given left state text more so_far = record { events = so_far.events; read = front_of given left so_far.events so_far.each so_far.bytes; replies = so_far.replies; answered = so_far.answered }

    -- and one more was
    steps_more : (old mid new : N) (from : InputState) (given left rest : Option (List ℕ)) (state after : InputState) (text now : Option (List ℕ)) (event : Event D) (reply : Reply S D P G C) → StreamsOn old from given left state text now mid
        → IsTaken F p (event_value event) state left after rest → steps mid event (Ok reply) new → AnswersSome F p (Answer steps old new) given
    steps_more old mid new from given left rest state after text now event reply so_far took step = record {
      events = so_far.events ++ event ∷ [];
      read = front_of given rest (so_far.events ++ event ∷ []) (each_append F p so_far.events (event ∷ []) so_far.each (All-cons (IsEvent F) (event_value event) [] took.event (All-nil (IsEvent F))))
          (subst (Consumes given rest) (sym (bytes_more F p so_far.events event)) (Consumes-trans given left rest (bytes_of p so_far.events) (event_spelling p (event_value event)) so_far.bytes took.bytes));
      replies = so_far.replies ++ reply ∷ [];
      answered = answer_on steps so_far.events so_far.replies old mid new event reply so_far.answered step;
    }

    -- whatever ended it while no event was at hand, no step failed
    pub steps_unread : (A : Type 0) (old new : N) (from : InputState) (given left : Option (List ℕ)) (state : InputState) (text more : Option (List ℕ)) (why : IoFault) (X Y : Type 0) → StreamsOn old from given left state text more new
        → IsFault state.place X Y why → StepsOver F p {A = A} (Answer steps old new) (AnswerBefore steps old new) (Err why) given
    unfolding steps_some
    steps_unread A old new from given left state text more fault.Read X Y so_far is = steps_some old new from given left state text more so_far
    steps_unread A old new from given left state text more fault.Write X Y so_far is = absurd is
    steps_unread A old new from given left state text more (fault.BadEvent at) X Y so_far is = steps_some old new from given left state text more so_far
    steps_unread A old new from given left state text more (fault.Node x) X Y so_far is = absurd is
    steps_unread A old new from given left state text more fault.Memory X Y so_far is = steps_some old new from given left state text more so_far

    -- and where the event that was taken last wasn't answered whole
    pub steps_unanswered : (A B : Type 0) (old mid new : N) (from : InputState) (given left rest : Option (List ℕ)) (state after : InputState) (text now more : Option (List ℕ)) (event : Event D) (why : IoFault) → StreamsOn old from given left state text now mid
        → IsTaken F p (event_value event) state left after rest → AnswersOne steps {A = B} w mid event (Err why) now more new → StepsOver F p {A = A} (Answer steps old new) (AnswerBefore steps old new) (Err why) given
    steps_unanswered A B old mid new from given left rest state after text now more event fault.Read so_far took came = absurd came
    steps_unanswered A B old mid new from given left rest state after text now more event fault.Write so_far took (reply, step, front) = steps_more old mid new from given left rest state after text now event reply so_far took step
    steps_unanswered A B old mid new from given left rest state after text now more event (fault.BadEvent at) so_far took came = absurd came
    steps_unanswered A B old mid new from given left rest state after text now more event (fault.Node x) so_far took (failed, kept) = record {
      events = so_far.events;
      event = event;
      read = front_of given rest (so_far.events ++ event ∷ []) (each_append F p so_far.events (event ∷ []) so_far.each (All-cons (IsEvent F) (event_value event) [] took.event (All-nil (IsEvent F))))
          (subst (Consumes given rest) (sym (bytes_more F p so_far.events event)) (Consumes-trans given left rest (bytes_of p so_far.events) (event_spelling p (event_value event)) so_far.bytes took.bytes));
      replies = so_far.replies;
      failed = record { before = mid; answer = so_far.answered; failed = failed };
    }
    steps_unanswered A B old mid new from given left rest state after text now more event fault.Memory so_far took (reply, step, kept) = steps_more old mid new from given left rest state after text now event reply so_far took step

    -- behind those that were answered before
    pub stops_amid : (before : List (Event D)) (said : List (Reply S D P G C)) (old new : N) (from : InputState) (given amid left : Option (List ℕ)) (state : InputState) (text mid more : Option (List ℕ))
        → StandsBehind F p w before said given amid from text mid → StreamsOn old from amid left state mid more new → StopsAmid F p w (Behind before said (Answer steps old new)) given left state text more
    stops_amid before said old new from given amid left state text mid more stands so_far = record {
      events = before ++ so_far.events;
      replies = said ++ so_far.replies;
      answered = record { later = so_far.events; answers = so_far.replies; split = refl; replied = refl; answered = so_far.answered };
      stands = record {
        taken = record {
          each = each_append F p before so_far.events stands.taken.each so_far.each;
          bytes = subst (Consumes given left) (sym (bytes_append F p before so_far.events)) (Consumes-trans given amid left (bytes_of p before) (bytes_of p so_far.events) stands.taken.bytes so_far.bytes);
          at = omega (arith, so_far.place, stands.taken.at, ap length (bytes_append F p before so_far.events), length-append (bytes_of p before) (bytes_of p so_far.events));
        };
        count = omega (arith, length-append before so_far.events, stands.count, so_far.count);
        written = subst (Appends text more) (sym (flat_map-append w said so_far.replies)) (Appends-trans text mid more (flat_map w said) (flat_map w so_far.replies) stands.written so_far.written);
      };
    }

    module _ (Answered : List (Event D) → List (Reply S D P G C) → Type 0) (given left : Option (List ℕ)) (state : InputState) (text more : Option (List ℕ)) (so_far : StopsAmid F p w Answered given left state text more) where
      -- it was given up behind them
      pub ends_front : AnswersFront F p w Answered given text more
      ends_front = record {
        events = so_far.events;
        read = in_front F p given left state.place so_far.events so_far.stands.taken;
        replies = so_far.replies;
        answered = so_far.answered;
        written = so_far.stands.written;
      }

      -- why no more was read
      why_given_up : (Now Failed : Type 0) → (Now → Failed) → IsGivenUp state Now → (length so_far.events ≡ 2 ^ 32) ⊎ Failed
      why_given_up Now Failed turn (inl spent) = inl (so_far.stands.count ∙ spent)
      why_given_up Now Failed turn (inr failed) = inr (turn failed)

      -- the input was given up, for this reason
      pub ends_given_up : (Now Failed : Type 0) → (Now → Failed) → IsGivenUp state Now → GivesUp F p w Answered Failed given text more
      unfolding ends_front
      ends_given_up Now Failed turn is = record { front = ends_front; why = why_given_up Now Failed turn is }

      module _ (q : List ℕ → Result (D × List ℕ) CodecError) (few : state.taken < 2 ^ 32) where
        -- they are fewer than may be
        are_few : length so_far.events < 2 ^ 32
        are_few = subst (λ (n : ℕ). n < 2 ^ 32) (sym so_far.stands.count) few

        -- the input is at its end
        pub ends_all : IsAtEnd left → AnswersAll F p w Answered q given None text more
        ends_all end = record {
          events = so_far.events;
          few = are_few;
          read = all_taken_off F p q given left state.place so_far.events so_far.stands.taken end;
          replies = so_far.replies;
          answered = so_far.answered;
          written = so_far.stands.written;
        }

        -- no event was taken, for this reason
        pub ends_unread : (A : Type 0) (Failing : List (Event D) → List (Reply S D P G C) → Event D → NodeFault → Type 0) (why : IoFault) (Now Failed : Type 0) → (Now → Failed)
            → IsFault state.place (IsGivenUp state Now) (IfSome left (HasNone q)) why → EndsIn F p w {A = A} q Answered Failing Failed (Err why) given text more
        unfolding ends_front
        ends_unread A Failing fault.Read Now Failed turn is = ends_given_up Now Failed turn is
        ends_unread A Failing fault.Write Now Failed turn is = absurd is
        ends_unread A Failing (fault.BadEvent at) Now Failed turn is = record {
          events = so_far.events;
          few = are_few;
          read = subst (λ (n : ℕ). IfSome given (λ bytes. AreEvents F p q bytes (map event_value so_far.events) (Some n))) (sym is.0) (none_behind F p q given left state.place so_far.events so_far.stands.taken is.1);
          replies = so_far.replies;
          answered = so_far.answered;
          written = so_far.stands.written;
        }
        ends_unread A Failing (fault.Node x) Now Failed turn is = absurd is
        ends_unread A Failing fault.Memory Now Failed turn is = inl (ends_front, are_few)

    module _ (before : List (Event D)) (said : List (Reply S D P G C)) (old mid new : N) (given left rest : Option (List ℕ)) (state after : InputState) (text now more : Option (List ℕ)) (event : Event D)
        (so_far : StopsAmid F p w (Behind before said (Answer steps old mid)) given left state text now) (took : IsTaken F p (event_value event) state left after rest) where
      -- with the event that was taken last they stand at the input's front
      all_read : IfSome given (StandInFront F p (so_far.events ++ event ∷ []))
      all_read = in_front F p given rest after.place (so_far.events ++ event ∷ []) (taken_more F p given left rest so_far.events event state after so_far.stands.taken took)

      -- a front of the last reply was written
      broken : (reply : Reply S D P G C) → steps mid event (Ok reply) new → (front behind : List ℕ) → w reply ≡ front ++ behind → Appends now more front → BreaksOff F p w (Behind before said (Answer steps old new)) given text more
      broken reply step front behind split written = record {
        events = so_far.events ++ event ∷ [];
        read = all_read;
        replies = so_far.replies;
        reply = reply;
        answered = behind_on before said old mid new so_far.events so_far.replies event reply so_far.answered step;
        front = front;
        rest = behind;
        split = split;
        written = Appends-trans text now more (flat_map w so_far.replies) front so_far.stands.written written;
      }

      -- nothing of it was
      lost : (reply : Reply S D P G C) → steps mid event (Ok reply) new → Keeps now more → (ends : BreaksOff F p w (Behind before said (Answer steps old new)) given text more) × (ends.front ≡ [])
      lost reply step kept =
          let ends : BreaksOff F p w (Behind before said (Answer steps old new)) given text more = record {
            events = so_far.events ++ event ∷ [];
            read = all_read;
            replies = so_far.replies;
            reply = reply;
            answered = behind_on before said old mid new so_far.events so_far.replies event reply so_far.answered step;
            front = [];
            rest = w reply;
            split = refl;
            written = subst (Appends text more) (sym (append-nil (flat_map w so_far.replies))) (Appends-kept text now more (flat_map w so_far.replies) so_far.stands.written kept);
          } in (ends, refl)

      -- the step over it failed
      failed_last : (why : NodeFault) → steps mid event (Err why) new → Keeps now more → Fails F p w (FailsBehind before said (AnswerBefore steps old new)) why given text more
      failed_last why failed kept = record {
        events = so_far.events;
        event = event;
        read = all_read;
        replies = so_far.replies;
        failed = record { later = so_far.answered.later; answers = so_far.answered.answers; split = so_far.answered.split; replied = so_far.answered.replied; failed = record { before = mid; answer = so_far.answered.answered; failed = failed } };
        written = Appends-kept text now more (flat_map w so_far.replies) so_far.stands.written kept;
      }

      -- what came of that event, where its reply was not written whole
      pub ends_unanswered : (A B : Type 0) (q : List ℕ → Result (D × List ℕ) CodecError) (Failed : Type 0) (why : IoFault) → AnswersOne steps {A = B} w mid event (Err why) now more new
          → EndsIn F p w {A = A} q (Behind before said (Answer steps old new)) (FailsBehind before said (AnswerBefore steps old new)) Failed (Err why) given text more
      ends_unanswered A B q Failed fault.Read came = absurd came
      ends_unanswered A B q Failed fault.Write (reply, step, (front, behind, split, written)) = broken reply step front behind split written
      ends_unanswered A B q Failed (fault.BadEvent at) came = absurd came
      ends_unanswered A B q Failed (fault.Node x) (failed, kept) = failed_last x failed kept
      ends_unanswered A B q Failed fault.Memory (reply, step, kept) = inr (lost reply step kept)

module _ {S D P G C : Type 0} (F : D → Type 0) (p : D → List ℕ) (w : Reply S D P G C → List ℕ) (q : List ℕ → Result (D × List ℕ) CodecError) where
  module _ (Answered : List (Event D) → List (Reply S D P G C) → Type 0) (Failed : List (Event D) → List (Reply S D P G C) → Event D → NodeFault → Type 0) (ReadFailed : Type 0) where
    -- what was answered behind nothing was answered
    first_answered : (events : List (Event D)) (replies : List (Reply S D P G C)) → Behind [] [] Answered events replies → Answered events replies
    first_answered events replies b = subst (λ (l : List (Event D)). Answered l replies) (sym b.split) (subst (λ (l : List (Reply S D P G C)). Answered b.later l) (sym b.replied) b.answered)

    first_failed : (events : List (Event D)) (replies : List (Reply S D P G C)) (event : Event D) (why : NodeFault) → FailsBehind [] [] Failed events replies event why → Failed events replies event why
    first_failed events replies event why b = subst (λ (l : List (Event D)). Failed l replies event why) (sym b.split) (subst (λ (l : List (Reply S D P G C)). Failed b.later l event why) (sym b.replied) b.failed)

    -- an input that came to an end where none of it was answered before
    pub ends_first : {A : Type 0} (r : Result A IoFault) (given text more : Option (List ℕ)) → EndsIn F p w q (Behind [] [] Answered) (FailsBehind [] [] Failed) ReadFailed r given text more → EndsIn F p w q Answered Failed ReadFailed r given text more
    ends_first r given text more ends = ends_as F p w q (Behind [] [] Answered) (FailsBehind [] [] Failed) ReadFailed Answered Failed first_answered first_failed r given text more ends

    -- and which didn't pause
    pub never_stops : {A : Type 0} (done : A) (stretch : Stretch) (given left : Option (List ℕ)) (state : InputState) (text more : Option (List ℕ)) → stretch ≢ Paused
        → StopsIn F p w q (Behind [] [] Answered) (FailsBehind [] [] Failed) ReadFailed (Ok stretch) given left state text more → EndsIn F p w q Answered Failed ReadFailed (Ok done) given text more
    never_stops done Paused given left state text more goes stops = absurd (goes refl)
    never_stops done Ended given left state text more goes stops = ends_first (Ok Ended) given text more stops
