use Rattle.std.proofs.Common.{◌∙◌, refl}
use Rattle.messages_certificates.specs.declared.artifact.Artifact.TheVariants as artifact
use Rattle.simplex_member.specs.Recorded.{finalization_in}
use Rattle.node_record.specs.Places.{as_finalization}
use Rattle.node_record.proofs.Placing.{none_picked, one_picked}
use Rattle.node_record.proofs.recorded.Recorded.finalization.Goals as goal

pub returns-in-Some : goal.returns-in-Some
returns-in-Some g c = λ owner xs k.
    c.finalization_of.ensures ∙ one_picked finalization_in artifact.Finalization as_finalization (λ x. refl) c.args.self.now.artifacts.items xs c.args.view _ _ c.in-Some.artifact.now k.artifacts_are (c.copied-place.ensures ∙ c.get.ensures.value) (k.places.finalizations c.args.view) c.in-Some.ensures

pub returns-in-None : goal.returns-in-None
returns-in-None g c = λ owner xs k.
    none_picked finalization_in artifact.Finalization as_finalization (λ x. refl) c.args.self.now.artifacts.items xs c.args.view _ _ k.artifacts_are (c.copied-place.ensures ∙ c.get.ensures.value) (k.places.finalizations c.args.view) c.in-None.ensures
