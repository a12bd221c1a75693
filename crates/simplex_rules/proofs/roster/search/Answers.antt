use Rattle.std.proofs.Common.{◌≡◌, false}
use Rattle.std.specs.Prelude.{IsErr, Result, Ok, Err}
use Rattle.std.specs.BTreeSet.{contains}
use Rattle.std.specs.List.Sorted.{IsStrictlySortedBy, IsBinarySearchResult}
use Rattle.std.proofs.Common.{List, ℕ}
use Rattle.simplex_rules.specs.declared.cast.Suspect.{Suspect}
use Rattle.simplex_rules.specs.Kept.{set_of, suspect_cmp}
use Rattle.simplex_rules.proofs.Standing.{comparisons_rise, found_nowhere}
use Rattle.simplex_rules.proofs.roster.search.Goals as goal

nowhere : (ks : List Suspect) (q : Suspect) (r : Result ℕ ℕ) → IsStrictlySortedBy suspect_cmp ks → IsBinarySearchResult (λ k. suspect_cmp k q) ks r → IsErr r → contains suspect_cmp (set_of ks) q ≡ false
nowhere ks q (Ok place) sorted searched err = absurd cc
nowhere ks q (Err gap) sorted searched err = found_nowhere ks q gap (searched (comparisons_rise ks q sorted))

pub returns-clause-absent : goal.returns-clause-absent
returns-clause-absent c = nowhere c.args.suspects.now c.args.suspect.now c.binary_search.result c.requires c.binary_search.ensures.position
