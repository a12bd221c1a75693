use Rattle.std.proofs.Common.{◌≡◌, List, [], refl, rules, ◌∷◌, ◌++◌, map, sym, ◌∙◌, ap, subst, arith, append_assoc}
use Rattle.std.specs.Prelude.{All, reverse}
use Rattle.std.proofs.lemmas.List.{map-append, reverse-append}
use Rattle.std.proofs.lemmas.List.Elements.{All-rest}
use Rattle.simplex_journal.specs.declared.history.PairEvent.{PairEvent}
use Rattle.simplex_journal.specs.declared.history.PairRequest.{PairRequest}
use Rattle.simplex_journal.specs.PairHistory.{OfMessages, request_of, AtEachEvent, IsAnswer, IsStage, is_open, disks_of}
use Rattle.simplex_journal.proofs.Histories.{given_stands, remembers}
use Rattle.simplex_journal.proofs.Reopening.{here_reopened}
use Rattle.simplex_journal.proofs.history.run_pair.Goals as goal

-- an event more, and a request less
asked_more : {M : Type 0} (events new : List (PairEvent M)) (event : PairEvent M) (left rest requests : List (PairRequest M)) (request : PairRequest M) → new ≡ events ++ event ∷ [] → left ≡ request ∷ rest → request_of event ≡ request
    → map request_of events ++ left ≡ requests → map request_of new ++ rest ≡ requests
asked_more events new event left rest requests request new_is left_is asked is =
    ap (λ (l : List (PairEvent _)). map request_of l ++ rest) new_is ∙ ap (λ (l : List (PairRequest _)). l ++ rest) (map-append request_of events (event ∷ [])) ∙ append_assoc (map request_of events) (request_of event ∷ []) rest
    ∙ ap (λ (r : PairRequest _). map request_of events ++ r ∷ rest) asked ∙ ap (λ (l : List (PairRequest _)). map request_of events ++ l) (sym left_is) ∙ is

pub loop-request-preserved : goal.loop-request-preserved
loop-request-preserved g c =
    let so_far = c.loop-request.invariant in
    let event = c.step-next.result.1 in
    let items : c.push.new.self.items ≡ c.loop-request.events.items ++ event ∷ [] = c.in-Ok-push.ensures.items in
    let told : reverse c.push.new.self.items ≡ event ∷ reverse c.loop-request.events.items = ap reverse items ∙ reverse-append c.loop-request.events.items (event ∷ []) in
    let answer = c.step-next.ensures.answer _ so_far.stage in
    record {
      asked = asked_more c.loop-request.events.items _ event _ _ _ c.in-Some.request items c.in-Some.ensures.steps.0 c.step-next.ensures.asked so_far.asked;
      room = omega (arith, so_far.room, c.in-Ok-push.ensures.capacity);
      fitting = All-rest (OfMessages (g.M.Read.within 65535)) c.in-Some.request _ _ c.in-Some.ensures.steps.0 so_far.fitting;
      answers = subst (AtEachEvent IsAnswer) (sym told) (answer.0, so_far.answers);
      came = rw told (disks_of c.loop-request.stage, so_far.came, c.step-next.ensures.comes, λ k. (c.step-next.ensures.stands k _ _ (so_far.stands k)).1);
      stage = subst (IsStage c.step-next.result.0) (sym told) answer.1;
      stands = λ k. rw told (c.step-next.ensures.stands k _ _ (so_far.stands k)).0;
    }

pub returns-clause-remembers : goal.returns-clause-remembers
returns-clause-remembers g c = λ k.
    let so_far = c.loop-request.invariant in
    remembers g.M.Write.spelling (record { first = g.K.Disk.calls c.args.first; second = g.K.Disk.calls c.args.second }) _ so_far.answers (so_far.stands k).finds

pub loop-request-init : goal.loop-request-init
loop-request-init g c =
    let none : reverse c.in-Ok.events.items ≡ [] = ap reverse c.in-Ok.ensures.items in
    let all : c.into_iter-request-iterator.result.rest.items ≡ c.args.requests.items = c.into_iter-request-iterator.ensures.into_iter_gives.0 in
    record {
      asked = ap (λ (l : List (PairEvent _)). map request_of l ++ c.into_iter-request-iterator.result.rest.items) c.in-Ok.ensures.items ∙ all;
      room = search rules;
      fitting = subst (All (OfMessages (g.M.Read.within 65535))) (sym all) c.requires;
      answers = subst (AtEachEvent IsAnswer) (sym none) tt;
      came = rw none (refl, refl);
      stage = ap is_open none;
      stands = λ k. rw none (given_stands _ _ _ _ _ c.args.first c.args.second (λ one two left left-2. here_reopened _ _ one two left left-2));
    }
