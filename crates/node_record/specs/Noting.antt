-- What a member has recorded, while one artifact more is being added.
use Rattle.std.specs.Prelude.{◌≡◌, List, ◌∷◌, [], ◌++◌}
use Rattle.messages_certificates.specs.declared.artifact.Artifact.{Artifact}
use Rattle.simplex_record.specs.declared.owner.Owner.{Owner}
use Rattle.simplex_record.specs.Record.{entries, entry}
use Rattle.simplex_record.specs.CheckerState as kept
use Rattle.node_record.specs.declared.recorded.Recorded.{Recorded}
use Rattle.node_record.specs.Places.{KeepsPlaces}

module _ {S D P G C : Type 0} where
  -- this owner has recorded these artifacts, the oldest first; what they tell says this one more already
  pub record HasNoted (owner : Owner) (recorded : Recorded S D P G C) (xs : List (Artifact S D P G C)) (x : Artifact S D P G C) : Type 0 where
    pub length_is : recorded.term_length ≡ owner.term_length
    pub artifacts_are : recorded.artifacts.items ≡ xs
    pub standing : kept.Keeps owner.term_length recorded.standing (entries xs ++ entry x ∷ [])
    pub places : KeepsPlaces recorded.places (xs ++ x ∷ [])
