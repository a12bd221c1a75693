use Rattle.std.proofs.Common.{◌++◌, ◌∷◌, [], ◌∙◌, List, ap, subst, sym}
use Rattle.std.proofs.lemmas.List.{map-append}
use Rattle.messages_certificates.specs.declared.artifact.Artifact.{Artifact}
use Rattle.simplex_record.specs.CheckerState as kept
use Rattle.simplex_record.specs.Record.{Entry, entry}
use Rattle.node_record.proofs.recorded.Recorded.add.Goals as goal

pub returns-in-Ok-push : goal.returns-in-Ok-push
returns-in-Ok-push g c = λ owner xs k follows.
    let noted = c.in-Ok.ensures.noted owner xs k follows in
    record {
      length_is = noted.length_is;
      artifacts_are = c.in-Ok-push.ensures.items ∙ ap (λ (ys : List (Artifact g.row.S.Denot g.row.D.Denot g.row.S-PublicKey.Denot g.row.S-Signature.Denot g.row.S-Certificate.Denot)). ys ++ c.args.artifact ∷ []) noted.artifacts_are;
      standing = subst (λ (es : List (Entry g.row.D.Denot)). kept.Keeps owner.term_length c.note.new.self.standing es) (sym (map-append entry xs (c.args.artifact ∷ []))) noted.standing;
      places = noted.places;
    }
