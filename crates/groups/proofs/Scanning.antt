-- The scan for the first key that is not admitted, row by row and set by set.
use Rattle.std.proofs.Common.{◌≡◌, ℕ, suc, ◌+◌, ◌-◌, ◌<◌, ◌≤◌, Bool, true, false, cond, List, [], length, get_or, drop, Some, None, Option, ap, ◌∙◌, arith}
use Rattle.std.specs.Option.{option_map}
use Rattle.std.proofs.lemmas.List.{drop_more, drop_all}
use Rattle.cells.specs.Rows.{CellOf}
use Rattle.model.specs.Setups.{Setup, num_sets, row_key}
use Rattle.model.specs.Steps.{or_else, set_out, key_out}

module _ {S : Type 0} (u : Setup S) (rows : List (List CellOf)) where
  -- what is left to scan at row i, and within it from set s on
  abbrev pub left-rows : ℕ → Option (ℕ × ℕ)
  left-rows i = key_out u i (drop i rows)

  abbrev pub left-sets : ℕ → ℕ → ℕ → Option (ℕ × ℕ)
  left-sets n i s = or_else (option_map (λ t. (i, t)) (set_out u (get_or rows i []) s (n - s))) (left-rows (i + 1))

  pub row_starts : (n i : ℕ) → n ≡ num_sets u.settings → i < length rows → left-rows i ≡ left-sets n i 0
  row_starts n i e l =
      let none : num_sets u.settings ≡ n - 0 = omega (arith, e) in
      ap (key_out u i) (drop_more rows i [] l)
      ∙ ap (λ (k : ℕ). or_else (option_map (λ t. (i, t)) (set_out u (get_or rows i []) 0 k)) (left-rows (i + 1))) none

  module _ (n i s : ℕ) (l : s < n) where
    more : n - s ≡ suc (n - (s + 1))
    more = omega arith

    step : left-sets n i s ≡ or_else (option_map (λ t. (i, t)) (cond (u.admitted (row_key u.settings s (get_or rows i []))) (set_out u (get_or rows i []) (s + 1) (n - (s + 1))) (Some s))) (left-rows (i + 1))
    step = ap (λ (k : ℕ). or_else (option_map (λ t. (i, t)) (set_out u (get_or rows i []) s k)) (left-rows (i + 1))) more

    pub set_passes : u.admitted (row_key u.settings s (get_or rows i [])) ≡ true → left-sets n i s ≡ left-sets n i (s + 1)
    set_passes e =
        step ∙ ap (λ (b : Bool). or_else (option_map (λ t. (i, t)) (cond b (set_out u (get_or rows i []) (s + 1) (n - (s + 1))) (Some s))) (left-rows (i + 1))) e

    pub set_fails : u.admitted (row_key u.settings s (get_or rows i [])) ≡ false → left-sets n i s ≡ Some (i, s)
    set_fails e =
        step ∙ ap (λ (b : Bool). or_else (option_map (λ t. (i, t)) (cond b (set_out u (get_or rows i []) (s + 1) (n - (s + 1))) (Some s))) (left-rows (i + 1))) e

  pub rows_end : (i : ℕ) → length rows ≤ i → left-rows i ≡ None
  rows_end i l = ap (key_out u i) (drop_all i rows l)
