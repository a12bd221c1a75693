-- What a program comes to that runs by the index, the committee and the leaders of its settings.
use Rattle.std.proofs.Common.{◌≡◌, ◌≢◌, ◌⊎◌, zero, suc, inl, inr, sym, ap, ◌∙◌, subst, refl, ℕ, Bool, List, Option, Some}
use Rattle.std.specs.Prelude.{Result, Err, unwrap_or, ⊤}
use Rattle.types_terms.specs.Rotation.{Rotation}
use Rattle.simplex_types.specs.Plain as plain
use Rattle.simplex_member.specs.declared.fault.IoFault.{IoFault}
use Rattle.simplex_member.specs.declared.fault.OpenFault.{OpenFault}
use Rattle.cli_settings.specs.declared.setting.Committee.{Committee}
use Rattle.simplex_cli.specs.declared.ending.Ending.{Ending}
use Rattle.simplex_cli.specs.declared.ending.Ending.TheVariants as ending
use Rattle.node_wire.specs.declared.stretch.Stretch.{Stretch}
use Rattle.cli_member.specs.Members.{MatchZero}
use Rattle.simplex_cli.specs.Rewriting.{EndsAmong}
use Rattle.simplex_cli.specs.Serving.{EndsAs}
use Rattle.cli_opening.specs.Members.{AreLeaders}

some-is : {X : Type 0} (x y : X) → Some x ≡ Some y → x ≡ y
some-is x y e = ap (λ o. unwrap_or o x) e

-- a committee is what its base, its size and the own index are
pub committee_is : (v : plain.Committee) (base : List ℕ) (count : ℕ) (me : Option ℕ) → v.base ≡ base → v.participants ≡ count → v.me ≡ me
    → v ≡ record { base = base; participants = count; me = me }
committee_is v base count me b n m =
    subst (λ (x : List ℕ). v ≡ record { base = x; participants = count; me = me }) b
    (subst (λ (x : ℕ). v ≡ record { base = v.base; participants = x; me = me }) n
    (subst (λ (x : Option ℕ). v ≡ record { base = v.base; participants = v.participants; me = x }) m refl))

-- no record was opened, or the node ran by the index that its scheme has
pub comes_by : (own : Option ℕ) (member : ℕ) (ended : Result ⊤ Ending) (Untouched : Type 0) (Unopened : OpenFault → Type 0) (two : Bool) (Run : Result ⊤ IoFault → ℕ → Type 0) → own ≡ Some member
    → ((why : OpenFault) × (ended ≡ Err (ending.Open why)) × Untouched × Unopened why)
    ⊎ ((io : Result ⊤ IoFault) × (index : ℕ) × EndsAs io two ended × (own ≡ Some index) × Run io index)
    → (((ended ≡ Err ending.Memory) ⊎ ((why : OpenFault) × (ended ≡ Err (ending.Open why)))) × Untouched)
    ⊎ ((io : Result ⊤ IoFault) × EndsAs io two ended × Run io member)
comes_by own member ended Untouched Unopened two Run mine (inl (why, is, same, unopened)) = inl (inr (why, is), same)
comes_by own member ended Untouched Unopened two Run mine (inr (io, index, is, owns, run)) =
    let same : index ≡ member = some-is index member (sym owns ∙ mine) in
    inr (io, is, subst (λ (n : ℕ). Run io n) same run)

-- a node ran whose record is rewritten while it does: by how many views, of which there are some
by_some : (views : ℕ) (P Q : Type 0) → views ≢ zero → Q → MatchZero views P Q
by_some zero P Q not runs = absurd (not refl)
by_some (suc views) P Q not runs = runs

-- so where no record was opened, or the node ran by the index that its scheme has
pub comes_rewriting : (own : Option ℕ) (member views : ℕ) → views ≢ zero → (ended : Result ⊤ Ending) (Untouched : Type 0) (Unopened : OpenFault → Type 0) (two : Bool) (Never : Type 0) (Run : Result Stretch IoFault → ℕ → Type 0) → own ≡ Some member
    → ((why : OpenFault) × (ended ≡ Err (ending.Open why)) × Untouched × Unopened why)
    ⊎ ((io : Result Stretch IoFault) × (index : ℕ) × EndsAmong io two ended × (own ≡ Some index) × Run io index)
    → (((ended ≡ Err ending.Memory) ⊎ ((why : OpenFault) × (ended ≡ Err (ending.Open why)))) × Untouched)
    ⊎ MatchZero views Never ((io : Result Stretch IoFault) × EndsAmong io two ended × Run io member)
comes_rewriting own member views some ended Untouched Unopened two Never Run mine (inl (why, is, same, unopened)) = inl (inr (why, is), same)
comes_rewriting own member views some ended Untouched Unopened two Never Run mine (inr (io, index, is, owns, run)) =
    let same : index ≡ member = some-is index member (sym owns ∙ mine) in
    inr (by_some views Never ((io : Result Stretch IoFault) × EndsAmong io two ended × Run io member) some (io, is, subst (λ (n : ℕ). Run io n) same run))

-- and its members go by these leaders
pub led_by : (c : Committee) (leaders : Rotation) (Not : Type 0) (Runs : Rotation → Type 0) → AreLeaders c leaders → Not ⊎ Runs leaders
    → Not ⊎ ((led : Rotation) × AreLeaders c led × Runs led)
led_by c leaders Not Runs led (inl not) = inl not
led_by c leaders Not Runs led (inr runs) = inr (leaders, led, runs)
