-- The wholly masked sets, found one after the other.
use Rattle.std.proofs.Common.{◌≡◌, ℕ, ◌+◌, ◌<◌, ◌≤◌, Bool, true, false, cond, ◌&&◌, ltb, List, [], ◌∷◌, length, get_or, drop, sym, refl, ap, ◌∙◌}
use Rattle.std.proofs.lemmas.List.{at_drop_more, at_drop_all}
use Rattle.std.proofs.lemmas.Bool.{lt-ltb}
use Rattle.cells.specs.Rows.{CellOf}
use Rattle.group_by.specs.Groupings.{masked_key}
use Rattle.model.specs.Questions.{all_masked}
use Rattle.model.specs.Setups.{Setup, num_sets}
use Rattle.model.specs.Machine.{interned_all, grand_keys_from, grand_keys}
use Rattle.group_values.specs.Tables.{interned}
use Rattle.groups.specs.Plans.{is_grand}

module _ {S : Type 0} (u : Setup S) where
  abbrev sets : List (List Bool)
  sets = u.settings.group_by.sets

  -- the keys of the wholly masked sets from the s-th on
  abbrev pub grand_left : ℕ → List (List CellOf)
  grand_left s = cond u.settings.group_by.grouped (grand_keys_from u s (drop s sets)) []

  abbrev key : ℕ → List CellOf
  key s = masked_key u.settings.group_by s

  left_step : (b : Bool) (s : ℕ) → s < length sets
      → cond b (grand_keys_from u s (drop s sets)) []
      ≡ cond (b && (ltb s (length sets) && all_masked (get_or sets s []))) (key s ∷ cond b (grand_keys_from u (s + 1) (drop (s + 1) sets)) []) (cond b (grand_keys_from u (s + 1) (drop (s + 1) sets)) [])
  left_step false s l = refl
  left_step true s l =
      let rest : List (List CellOf) = grand_keys_from u (s + 1) (drop (s + 1) sets) in
      at_drop_more (grand_keys_from u s) sets s [] l
      ∙ sym (ap (λ (b : Bool). cond (b && all_masked (get_or sets s [])) (key s ∷ rest) rest) (lt-ltb s (length sets) l))

  -- a set more: the table then, and what is left, make the same of the keys
  pub total_more : (b : Bool) (s : ℕ) (table table' : List (List CellOf)) → s < num_sets u.settings → is_grand u.settings s ≡ b
      → table' ≡ cond b (interned u.admitted table (key s)) table
      → interned_all u.admitted table' (grand_left (s + 1)) ≡ interned_all u.admitted table (grand_left s)
  total_more b s table table' l is after =
      ap (λ (t : List (List CellOf)). interned_all u.admitted t (grand_left (s + 1))) after
      ∙ both b
      ∙ sym (ap (λ (c : Bool). interned_all u.admitted table (cond c (key s ∷ grand_left (s + 1)) (grand_left (s + 1)))) is)
      ∙ sym (ap (interned_all u.admitted table) (left_step u.settings.group_by.grouped s l))
    where
      both : (c : Bool) → interned_all u.admitted (cond c (interned u.admitted table (key s)) table) (grand_left (s + 1))
          ≡ interned_all u.admitted table (cond c (key s ∷ grand_left (s + 1)) (grand_left (s + 1)))
      both true = refl
      both false = refl

  none_left : (b : Bool) (s : ℕ) → length sets ≤ s → cond b (grand_keys_from u s (drop s sets)) [] ≡ []
  none_left true s past = at_drop_all (grand_keys_from u s) sets s past
  none_left false s past = refl

  pub totals_all : (s : ℕ) (table before : List (List CellOf)) → num_sets u.settings ≤ s
      → interned_all u.admitted table (grand_left s) ≡ interned_all u.admitted before (grand_keys u) → table ≡ interned_all u.admitted before (grand_keys u)
  totals_all s table before past so_far =
      sym (ap (interned_all u.admitted table) (none_left u.settings.group_by.grouped s past)) ∙ so_far
