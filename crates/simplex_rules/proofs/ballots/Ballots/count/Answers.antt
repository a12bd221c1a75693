use Rattle.std.proofs.Common.{◌≡◌, true, false, refl, sym, ◌∙◌}
use Rattle.simplex_rules.specs.Tally.{KeepsVotes, cast_of, parts_of, suspect_of}
use Rattle.simplex_rules.proofs.Lists.{OnOk-then}
use Rattle.simplex_rules.proofs.Tallies.{Holds-counted, Tallies-skip}
use Rattle.simplex_rules.proofs.ballots.Ballots.count.Goals as goal

pub returns-in-Err : goal.returns-in-Err
returns-in-Err g c = λ votes h.
    let Keeps = KeepsVotes g.K.ProposalKind.states (g.S.Scheme.attests c.args.scheme.now) g.D.Ord.cmp in
    let vote = c.args.vote.now in
    Holds-counted c.args.contested.now Keeps parts_of votes vote c.args.self.now.kept.items c.args.self.now.kept.items
    (λ counted t. Tallies-skip c.args.contested.now Keeps counted c.args.self.now.kept.items (suspect_of vote) (cast_of vote) (λ there. let both : false ≡ true = sym (c.in-Err.ensures.absent refl) ∙ there in cc) t) h

pub returns-in-Ok : goal.returns-in-Ok
returns-in-Ok g c = OnOk-then c.keep.result (λ keeps votes h.
    let Keeps = KeepsVotes g.K.ProposalKind.states (g.S.Scheme.attests c.args.scheme.now) g.D.Ord.cmp in
    Holds-counted c.args.contested.now Keeps parts_of votes c.args.vote.now c.args.self.now.kept.items c.keep.new.self.kept.items (λ counted t. keeps c.args.contested.now counted c.in-Ok.ensures.found t) h) c.keep.ensures
