-- What the views of a voter know.
use Rattle.std.specs.Prelude.{List}
use Rattle.types_core.specs.declared.scheme.Scheme.{Ghosts}
use Rattle.types_terms.specs.declared.elector.Elector as elector
use Rattle.voter_views.specs.declared.views.Views.{Views}
use Rattle.voter_history.specs.History.{Setup, Point}
use Rattle.voter_history.specs.Known.{Known, known}
use Rattle.voter_views.specs.Views.{Keeps}
use Rattle.voter_rules.specs.Ancestry.{Member, member}

-- the views stand where this member knows this: what a history that leads to them makes known
pub data Shows {S L D P G C : Type 0} (g : Ghosts S D P G C) (e : elector.Ghosts L S D P G C) (v : Views S L D P G C) : Member → Known D → Type 0 where
  at : (s : Setup S C) (h : List (Point S D P G C)) → Keeps g e s v h → Shows g e v (member s) (known s h)
