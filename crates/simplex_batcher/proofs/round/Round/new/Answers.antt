use Rattle.std.proofs.Common.{◌≡◌, ◌∙◌, refl, arith, max}
use Rattle.types_quorum.specs.Committee.{quorum}
use Rattle.std.proofs.lemmas.List.Elements.{All-nil}
use Rattle.simplex_batcher.specs.Rounds.{RoundKeeps}
use Rattle.simplex_batcher.proofs.round.Round.new.Goals as goal

pub returns : goal.returns
unfolding RoundKeeps
returns g c =
    let e : max 0 (quorum (g.S.Scheme.size c.args.scheme.value)) ≡ quorum (g.S.Scheme.size c.args.scheme.value) = grind arith in record {
      verifier = rw e at (c.open.ensures c.args.track_historical_votes);
      of_members = All-nil _;
      are_new = tt;
      tracks_is = refl;
      forwarded_is = refl;
    }
