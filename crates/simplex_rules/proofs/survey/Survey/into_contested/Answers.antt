use Rattle.std.specs.Prelude.{Contains, IsSome, IsTrue, IfOk, Result, Ok, Err}
use Rattle.std.specs.BTreeSet.{BTreeSet, IsSubset, contains}
use Rattle.std.proofs.lemmas.Map.Views.{btree_set_contains_iff}
use Rattle.simplex_rules.specs.declared.cast.Suspect.{Suspect}
use Rattle.simplex_rules.specs.Choices.{choice_in}
use Rattle.simplex_rules.specs.Kept.{suspect_cmp}
use Rattle.simplex_rules.proofs.Suspects.{suspects_exact, suspects_total}
use Rattle.simplex_rules.proofs.survey.Survey.into_contested.Goals as goal

-- who is in a set is in each that has all of it
IfOk-more : {E : Type 0} (P Q : Suspect → Type 0) (s : BTreeSet Suspect) (r : Result (BTreeSet Suspect) E) → ((q : Suspect) → P q → Q q → IsTrue (contains suspect_cmp s q)) → IfOk r (λ t. IsSubset suspect_cmp s t) → IfOk r (λ t. (q : Suspect) → P q → Q q → IsTrue (contains suspect_cmp t q))
IfOk-more P Q s (Ok t) there more = λ q p h. more q (there q p h)
IfOk-more P Q s (Err e) there more = tt

pub returns-clause-added : goal.returns-clause-added
returns-clause-added g c =
    IfOk-more (λ q. IsTrue (contains suspect_cmp c.args.self.nullified q)) (λ q. IsSome (choice_in c.args.self.finalized q.round)) c.contest.new.contested c.into_suspects-2.result
    (λ q nullified finalized.
    let there : Contains c.in_ok-nullified.nullified.keys q = (btree_set_contains_iff suspects_total suspects_exact c.in_ok-nullified.nullified q).0 (c.in_ok-nullified.ensures q nullified) in
    c.in_ok-contest.ensures.added q (rw c.as_slice.ensures.keys there) finalized)
    c.into_suspects-2.ensures
