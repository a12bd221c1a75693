use Rattle.std.proofs.Common.{◌≡◌, List, ◌∷◌, inl, inr, refl, subst, sym, arith, rules, string_bytes}
use Rattle.std.proofs.lemmas.Grind.{common_steps}
use Rattle.toml.specs.View.{members_view, table_view}
use Rattle.toml.proofs.Views.{Entry}
use Rattle.cli_toml.specs.Keys.{IsKey}
use Rattle.cli_toml.specs.Refusing.{AreKnown, HasName, IsStranger}
use Rattle.cli_toml.proofs.Wrong.{unknown_in}
use Rattle.cli_toml.proofs.reading.all_known.Goals as goal

pub loop-name-preserved : goal.loop-name-preserved
loop-name-preserved c =
    let e : Entry = (c.in-Some.name.now, c.in-Some._value.now) in
    let iter : c.loop-name.name-iterator ≡ e ∷ c.next.new.self = grind (arith, common_steps) in
    let is_key : IsKey (string_bytes e.0) = grind (arith, common_steps) in
    record {
      known = λ rest. c.loop-name.invariant.known (subst (λ (es : List Entry). AreKnown (members_view es)) (sym iter) (is_key, rest));
      named = λ name has. c.loop-name.invariant.named name (subst (λ (es : List Entry). HasName name (members_view es)) (sym iter) (inr has));
    }

pub returns-in_err-known-clause-fault : goal.returns-in_err-known-clause-fault
returns-in_err-known-clause-fault c =
    let e : Entry = (c.in-Some.name.now, c.in-Some._value.now) in
    let iter : c.loop-name.name-iterator ≡ e ∷ c.next.new.self = grind (arith, common_steps) in
    let has : HasName (string_bytes e.0) (table_view c.args.table.now) =
    c.loop-name.invariant.named (string_bytes e.0) (subst (λ (es : List Entry). HasName (string_bytes e.0) (members_view es)) (sym iter) (inl refl)) in
    let stranger : IsStranger (string_bytes e.0) c.in_err-known.field-0.0 = grind (arith, common_steps) in
    let fault = unknown_in (table_view c.args.table.now) (string_bytes e.0) c.in_err-known.field-0.0 stranger has in
    search (rules, fault)
