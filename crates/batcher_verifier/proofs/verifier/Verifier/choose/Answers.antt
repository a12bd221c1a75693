use Rattle.std.proofs.Common.{◌≡◌, ◌∙◌, refl, sym, ap}
use Rattle.std.specs.Prelude.{Option, None, Some}
use Rattle.std.specs.Option.{option_copied}
use Rattle.types_core.specs.declared.proposal.Proposal.{Proposal}
use Rattle.batcher_verifier.specs.History.{proposal_of}
use Rattle.batcher_verifier.specs.Keeping.{selection_of}
use Rattle.batcher_verifier.proofs.Choosing.{none-goes, some-go}
use Rattle.batcher_verifier.proofs.verifier.Verifier.choose.Goals as goal

pub returns-in-None-clause-chosen : goal.returns-in-None-clause-chosen
returns-in-None-clause-chosen g c =
    let nothing : Option (Proposal g.row.D.Denot) = None in
    let none : proposal_of (selection_of c.args.next) ≡ nothing = sym c.proposal.ensures ∙ ap option_copied c.in-None.is in
    let same = g.D.PartialEq.eq in record {
      round_stays = refl;
      scheme_stays = refl;
      needed_stays = refl;
      skipped_stays = refl;
      leader_stays = refl;
      selects = refl;
      keeps = none-goes same c.args.self.now.proposal c.args.next c.args.self.now.rows none;
    }

pub returns-in-Some-clause-chosen : goal.returns-in-Some-clause-chosen
returns-in-Some-clause-chosen g c =
    let one : proposal_of (selection_of c.args.next) ≡ Some c.in-Some.proposal.now = sym c.proposal.ensures ∙ ap option_copied c.in-Some.is in
    let same = g.D.PartialEq.eq in record {
      round_stays = refl;
      scheme_stays = refl;
      needed_stays = refl;
      skipped_stays = refl;
      leader_stays = refl;
      selects = refl;
      keeps = some-go same c.args.self.now.proposal c.args.next c.in-Some.proposal.now c.args.self.now.rows c.retain_for.new.self one c.retain_for.ensures.places c.retain_for.ensures.kinds;
    }
