use Rattle.std.proofs.Common.{◌≡◌, true, false, refl, sym, ◌∙◌}
use Rattle.simplex_rules.specs.Tally.{KeepsNullifies, nullify_parts, nullify_suspect}
use Rattle.simplex_rules.proofs.Lists.{OnOk-then}
use Rattle.simplex_rules.proofs.Tallies.{Holds-counted, Tallies-skip}
use Rattle.simplex_rules.proofs.nullifies.Nullifies.count.Goals as goal

pub returns-in-Err : goal.returns-in-Err
returns-in-Err g c = λ votes h.
    let Keeps = KeepsNullifies (g.S.Scheme.attests c.args.scheme.now) in
    let vote = c.args.vote.now in
    Holds-counted c.args.contested.now Keeps nullify_parts votes vote c.args.self.now.kept.items c.args.self.now.kept.items
    (λ counted t. Tallies-skip c.args.contested.now Keeps counted c.args.self.now.kept.items (nullify_suspect vote) vote.attestation.signature (λ there. let both : false ≡ true = sym (c.in-Err.ensures.absent refl) ∙ there in cc) t) h

pub returns-in-Ok : goal.returns-in-Ok
returns-in-Ok g c = OnOk-then c.keep.result (λ keeps votes h.
    let Keeps = KeepsNullifies (g.S.Scheme.attests c.args.scheme.now) in
    Holds-counted c.args.contested.now Keeps nullify_parts votes c.args.vote.now c.args.self.now.kept.items c.keep.new.self.kept.items (λ counted t. keeps c.args.contested.now counted c.in-Ok.ensures.found t) h) c.keep.ensures
