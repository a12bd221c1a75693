use Rattle.std.proofs.Common.{◌≡◌, ◌<◌, ◌-◌, ◌^◌, Bool, arith, refl, sym, subst}
use Rattle.simplex_member.specs.Layers.{finalized_of}
use Rattle.simplex_member.specs.Packet.{formats}
use Rattle.node_record.specs.declared.tables.Tables.{Tables}
use Rattle.node_record.specs.Tables.{KeepsTables, build_parts}
use Rattle.node_requests.specs.Asking.{is_none}
use Rattle.node_requests.specs.Building.{IsKeptOrFalls}
use Rattle.node_requests.specs.NoneDue.{NoBuildToGiveBack}
use Rattle.node_requests.proofs.Acts.{nothing_asked}
use Rattle.node_requests.proofs.Builds.{all_are_kept, build_fell, build_numbers, one_more_kept}
use Rattle.node_requests.proofs.building.give_build_back.Goals as goal

pub builds-init : goal.builds-init
builds-init g c = record {
  same = refl;
  below = λ repair s h keeps. record { voter_is = keeps.voter_is; none_falls = λ n handoff context below there. absurd (omega (arith, below)) };
}

pub builds-preserved : goal.builds-preserved
builds-preserved g c = record {
  same = c.builds.invariant.same;
  below = λ repair s h keeps.
      let f = formats g.D.PartialEq.eq g.D.Write.spelling g.S.Signature.Write.spelling g.S.Certificate.Write.spelling g.D.Read.reading g.S.Signature.Read.reading g.S.Certificate.Read.reading (g.S.Scheme.size s.voter.scheme) in
      let tables = subst (λ (t : Tables g.row.S.Denot g.row.D.Denot g.row.S-PublicKey.Denot g.row.S-Signature.Denot g.row.S-Certificate.Denot). KeepsTables (finalized_of s h) t h) (sym c.builds.invariant.same) keeps.tables_are in
      let below = c.builds.invariant.below repair s h keeps in
      let first = c.in-Some.ensures.first (finalized_of s h) h tables in
      one_more_kept g.S.Scheme g.L.Elector f s c.builds.voter c.falls.new.voter h c.builds.from c.in-Some.number (build_parts c.in-Some.building) below first
      (subst (λ (b : Bool). IsKeptOrFalls g.S.Scheme g.L.Elector f s c.falls.new.voter h c.in-Some.building.handoff c.in-Some.building.context b) c.in-Ok-false.field-0-test
      (c.in-Ok-false.ensures.falls f s h c.in-Some.number keeps.allowed first.there below.voter_is));
}

pub returns-in-Ok-true-clause-acts : goal.returns-in-Ok-true-clause-acts
returns-in-Ok-true-clause-acts g c = λ repair s h keeps actions.
    let f = formats g.D.PartialEq.eq g.D.Write.spelling g.S.Signature.Write.spelling g.S.Certificate.Write.spelling g.D.Read.reading g.S.Signature.Read.reading g.S.Certificate.Read.reading (g.S.Scheme.size s.voter.scheme) in
    let tables = subst (λ (t : Tables g.row.S.Denot g.row.D.Denot g.row.S-PublicKey.Denot g.row.S-Signature.Denot g.row.S-Certificate.Denot). KeepsTables (finalized_of s h) t h) (sym c.builds.invariant.same) keeps.tables_are in
    let below = c.builds.invariant.below repair s h keeps in
    let first = c.in-Some.ensures.first (finalized_of s h) h tables in
    build_fell g.S.Scheme g.L.Elector f s c.falls.new.voter c.end_build.new.self h c.in-Some.number c.in-Some.building.handoff c.in-Some.building.context actions keeps.begun first.there
    (subst (λ (b : Bool). IsKeptOrFalls g.S.Scheme g.L.Elector f s c.falls.new.voter h c.in-Some.building.handoff c.in-Some.building.context b) c.in-Ok-true.field-0-test
    (c.in-Ok-true.ensures.falls f s h c.in-Some.number keeps.allowed first.there below.voter_is))
    (c.end_build.ensures.given_back (finalized_of s h) h tables) (c.end_build.ensures.left_behind (finalized_of s h) h tables)

pub returns-clause-acts : goal.returns-clause-acts
returns-clause-acts g c = λ repair s h keeps actions.
    let f = formats g.D.PartialEq.eq g.D.Write.spelling g.S.Signature.Write.spelling g.S.Certificate.Write.spelling g.D.Read.reading g.S.Signature.Read.reading g.S.Certificate.Read.reading (g.S.Scheme.size s.voter.scheme) in
    let tables = subst (λ (t : Tables g.row.S.Denot g.row.D.Denot g.row.S-PublicKey.Denot g.row.S-Signature.Denot g.row.S-Certificate.Denot). KeepsTables (finalized_of s h) t h) (sym c.builds.invariant.same) keeps.tables_are in
    let below = c.builds.invariant.below repair s h keeps in
    nothing_asked g.S.Scheme g.L.Elector f s is_none (NoBuildToGiveBack g.S.Scheme f s) c.builds.voter c.builds.tables h actions
    (all_are_kept g.S.Scheme g.L.Elector f s c.builds.voter h c.builds.from below (c.in_default.ensures.first (finalized_of s h) h tables)) below.voter_is tables

pub returns-then-number-clause-acts : goal.returns-then-number-clause-acts
returns-then-number-clause-acts g c = λ repair s h keeps actions.
    let f = formats g.D.PartialEq.eq g.D.Write.spelling g.S.Signature.Write.spelling g.S.Certificate.Write.spelling g.D.Read.reading g.S.Signature.Read.reading g.S.Certificate.Read.reading (g.S.Scheme.size s.voter.scheme) in
    let tables = subst (λ (t : Tables g.row.S.Denot g.row.D.Denot g.row.S-PublicKey.Denot g.row.S-Signature.Denot g.row.S-Certificate.Denot). KeepsTables (finalized_of s h) t h) (sym c.builds.invariant.same) keeps.tables_are in
    let first = c.in-Some.ensures.first (finalized_of s h) h tables in
    let low : c.in-Some.number < 2 ^ 64 - 1 = build_numbers g.S.Scheme f s h c.in-Some.number (build_parts c.in-Some.building) keeps.allowed first.there in
    absurd (omega (arith, low, c.if-number.true))
