-- What a window tests passes a test where its equalities, its left probe, where it has one, and its right probe do.
use Rattle.std.proofs.Common.{◌≡◌, ◌∙◌, Bool, true, ◌&&◌, List, [], ◌∷◌, ◌++◌, map, Option, Some, None, option_map, refl, sym, ap}
use Rattle.std.specs.List.{list_all}
use Rattle.std.specs.Option.{option_map_or}
use Rattle.std.proofs.Math.Bool.{and-true}
use Rattle.std.proofs.lemmas.List.Folds.{list_all-append, list_all-map}
use Rattle.tsl_terms.specs.declared.term.Probe.{Probe}
use Rattle.tsl_terms.specs.declared.window.Equated.{Equated}
use Rattle.tsl_terms.specs.TermTree.{ProbeTree, probe_tree}
use Rattle.tsl_terms.specs.WindowTree.{EquatedTree, WindowTree, equated_tree, left_probes, window_probes}

module _ (has : ProbeTree → Bool) where
  pub equalities_pass : (es : List Equated) →
      list_all (λ (e : Equated). has (probe_tree e.probe)) es ≡ list_all has (map (λ (e : EquatedTree). e.probe) (map equated_tree es))
  equalities_pass es =
      sym (list_all-map has (λ (e : EquatedTree). e.probe) (map equated_tree es)
      ∙ list_all-map (λ (e : EquatedTree). has e.probe) equated_tree es)

  pub left_passes : (left : Option Probe) →
      option_map_or (λ (p : Probe). has (probe_tree p)) left true ≡ list_all has (left_probes (option_map probe_tree left))
  left_passes None = refl
  left_passes (Some p) = sym (and-true (has (probe_tree p)))

  pub all_pass : (w : WindowTree) (equal left right : Bool) → list_all has (map (λ (e : EquatedTree). e.probe) w.equalities) ≡ equal →
      list_all has (left_probes w.left) ≡ left → has w.right ≡ right →
      list_all has (window_probes w) ≡ (equal && (left && right))
  all_pass w equal left right by_equal by_left by_right =
      list_all-append has (map (λ (e : EquatedTree). e.probe) w.equalities) (left_probes w.left ++ w.right ∷ [])
      ∙ (λ i. by_equal i && list_all-append has (left_probes w.left) (w.right ∷ []) i)
      ∙ (λ i. equal && (by_left i && and-true (has w.right) i))
      ∙ ap (λ b. equal && (left && b)) by_right
