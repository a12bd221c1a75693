-- What is told of terms without a division.
use Rattle.std.proofs.Common.{ℕ, zero, suc, ◌≡◌, ◌≤◌, ◌<◌, ◌+◌, ◌-◌, ◌*◌, ◌/◌, true, refl, arith}
use Rattle.std.specs.Prelude.{nat_lt}
use Rattle.std.proofs.Math.Nat.{add-mul, div-lt_iff_lt-mul, le-mul_of_pos_right, lt-div-mul-add}
use Rattle.std.proofs.lemmas.Bool.Decides.{nat_tests}
use Rattle.std.proofs.lemmas.Grind.{common_steps}
use Rattle.types_core.specs.Positions.{term_index, term_start}

-- the term of a view, by the view before it
term_index-suc : (views before : ℕ) → term_index views (suc before) ≡ before / views + 1
term_index-suc views before = grind (arith, common_steps)

term_index-next : (views before : ℕ) → term_index views (before + 1) ≡ before / views + 1
term_index-next views before = grind (arith, common_steps)

-- so many views on, no more terms have passed
terms_on : (views last before more : ℕ) → 0 < views → before ≤ last + more → before / views ≤ last / views + more
terms_on views last before more some le =
    let low : last < last / views * views + views = lt-div-mul-add some in
    let wide : more ≤ more * views = le-mul_of_pos_right more some in
    let both : (last / views + more) * views ≡ last / views * views + more * views = add-mul (last / views) more views in
    let next : (last / views + more + 1) * views ≡ (last / views + more) * views + 1 * views = add-mul (last / views + more) 1 views in
    let under : before < (last / views + more + 1) * views = omega (arith, low, wide, both, next, le) in
    omega (arith, (div-lt_iff_lt-mul some).1 under)

-- no more terms than views lie between two views
terms-between : (views last view : ℕ) → 0 < views → term_index views view - term_index views (last + 1) ≤ view - last
terms-between views last zero some = omega arith
terms-between views last (suc before) some =
    let here : term_index views (suc before) ≡ before / views + 1 = term_index-suc views before in
    let there : term_index views (last + 1) ≡ last / views + 1 = term_index-next views last in
    let near : before / views ≤ last / views + (suc before - last) = terms_on views last before (suc before - last) some (omega arith) in
    omega (arith, here, there, near)

-- where fewer views were skipped than terms may be, fewer terms were
pub few_views : (views last view budget : ℕ) → 0 < views → view - last < budget → true ≡ nat_lt (term_index views view - term_index views (last + 1)) budget
few_views views last view budget some few = let near = terms-between views last view some in grind (arith, nat_tests, near, few)

-- a term of one view begins with that view
pub one_view : (view : ℕ) → view ≡ term_start 1 view
one_view zero = refl
one_view (suc before) = grind (arith, common_steps)
