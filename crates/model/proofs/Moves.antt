-- The books stay when groups go out, and at the end step.
use Rattle.std.proofs.Common.{◌≡◌, ℕ, zero, suc, ◌+◌, ◌≤◌, Bool, List, [], ◌∷◌, ◌++◌, length, drop, sym, refl, ap, ◌∙◌, append_assoc, append-nil, arith}
use mathlib.Core.List.{map-append}
use Rattle.std.specs.List.{AllByRecursion as All}
use Rattle.std.proofs.lemmas.List.{length-drop, take-append-drop}
use Rattle.std.proofs.ByRecursion.{All-append, All-take, All-drop}
use Rattle.std.proofs.lemmas.Bool.{cond_both}
use Rattle.cells.specs.Rows.{CellOf}
use Rattle.cells.specs.Emits.{emitted, left}
use Rattle.cells.specs.declared.emit_to.EmitTo.{EmitTo}
use Rattle.cells.specs.declared.emit_to.EmitTo.TheVariants.{All as Everything, First}
use Rattle.group_by.specs.Groupings.{masked_key}
use Rattle.group_values.specs.TablesLemmas.{distinct-left}
use Rattle.accumulators.specs.Groups.{updated}
use Rattle.order.specs.Orders.{done}
use Rattle.model.specs.Questions.{all_masked}
use Rattle.model.specs.Setups.{Setup, key_width, out_row}
use Rattle.model.specs.Machine.{Groups, groups, none, beside, held_pairs, out_rows, emission, shed, interned_all, grand_keys_from, grand_keys, totalled}
use Rattle.model.specs.Sql.{total}
use Rattle.model.specs.Law.{states_held, Sensible}
use Rattle.model.proofs.Totals.{held_append}
use Rattle.model.proofs.Modes.{mode_removed_by, mode_done}
use Rattle.model.proofs.Keys.{masked_key-length}
use Rattle.model.proofs.Absorbing.{Fit, beside-all, padded}
use Rattle.model.proofs.Booked.{Booked, pairs-sound, booked_same}

-- ---- what goes out of a list, and what it leaves

pub emitted-left : {X : Type 0} (to : EmitTo) (xs : List X) → emitted to xs ++ left to xs ≡ xs
emitted-left Everything xs = append-nil xs
emitted-left (First n) xs = take-append-drop n xs

emitted-all : {X : Type 0} (P : X → Type 0) (to : EmitTo) (xs : List X) → All P xs → All P (emitted to xs)
emitted-all P Everything xs h = h
emitted-all P (First n) xs h = All-take P n xs h

left-all : {X : Type 0} (P : X → Type 0) (to : EmitTo) (xs : List X) → All P xs → All P (left to xs)
left-all P Everything xs h = tt
left-all P (First n) xs h = All-drop P n xs h

left-none : {X : Type 0} (to : EmitTo) → left {X = X} to [] ≡ []
left-none Everything = refl
left-none (First zero) = refl
left-none (First (suc n)) = refl

pub left-nil : {X : Type 0} (to : EmitTo) (xs : List X) → xs ≡ [] → left to xs ≡ []
left-nil {X} to xs e = ap (λ (ys : List X). left to ys) e ∙ left-none to

left-length : {X Y : Type 0} (to : EmitTo) (xs : List X) (ys : List Y) → length xs ≡ length ys → length (left to xs) ≡ length (left to ys)
left-length Everything xs ys e = refl
left-length (First n) xs ys e = omega (arith, length-drop n xs, length-drop n ys)

left-fewer : {X : Type 0} (to : EmitTo) (xs : List X) → length (left to xs) ≤ length xs
left-fewer Everything xs = omega arith
left-fewer (First n) xs = omega (arith, length-drop n xs)

module _ {S : Type 0} (u : Setup S) where
  beside-drop : (n : ℕ) (keys : List (List CellOf)) (ss : List S) → beside u (drop n keys) (drop n ss) ≡ drop n (beside u keys ss)
  beside-drop zero keys ss = refl
  beside-drop (suc n) [] ss = refl
  beside-drop (suc n) (k ∷ keys) [] = none_left n keys
    where
      none_left : (n : ℕ) (keys : List (List CellOf)) → beside u (drop n keys) [] ≡ drop n (beside u keys [])
      none_left zero keys = refl
      none_left (suc n) [] = refl
      none_left (suc n) (k ∷ keys) = none_left n keys
  beside-drop (suc n) (k ∷ keys) (s ∷ ss) = beside-drop n keys ss

  beside-left : (to : EmitTo) (keys : List (List CellOf)) (ss : List S) → beside u (left to keys) (left to ss) ≡ left to (beside u keys ss)
  beside-left Everything keys ss = refl
  beside-left (First n) keys ss = beside-drop n keys ss

module _ {S : Type 0} (u : Setup S) (fine : Sensible u) {rows gone : List (List CellOf)} {g : Groups S} (b : Booked u rows gone g) where
  shed-fit : (to : EmitTo) → Fit u (shed to g)
  shed-fit to = record {
    sound = left-all u.aggregation.sound to g.states b.fit.sound;
    wide = left-all (λ k. length k ≡ key_width u.settings) to g.keys b.fit.wide;
    aligned = left-length to g.states g.keys b.fit.aligned;
    apart = distinct-left to g.keys b.fit.apart;
    bounded = omega (arith, left-fewer to g.keys, b.fit.bounded);
    mode = mode_removed_by to g.order ∙ b.fit.mode;
  }

  pub booked_emitted : (to : EmitTo) → Booked u rows (gone ++ emission u to g) (shed to g)
  booked_emitted to =
      let ps : List (List CellOf × S) = emitted to (held_pairs u g) in
      let rest : List (List CellOf × S) = held_pairs u (shed to g) in
      let whole : ps ++ rest ≡ held_pairs u g =
      ap (λ (qs : List (List CellOf × S)). ps ++ qs) (beside-left u to g.keys g.states) ∙ emitted-left to (held_pairs u g) in
      record {
        trace = b.trace ++ ps;
        out = map-append (λ (p : List CellOf × S). out_row u p.0 p.1) b.trace ps
            ∙ ap (λ (xs : List (List CellOf)). xs ++ out_rows u ps) b.out;
        joined = λ k.
            let X : List S = states_held u k b.trace in
            ap (λ (ss : List S). total u.aggregation (ss ++ states_held u k rest)) (held_append u k b.trace ps)
            ∙ ap (total u.aggregation) (append_assoc X (states_held u k ps) (states_held u k rest))
            ∙ ap (λ (ss : List S). total u.aggregation (X ++ ss)) (sym (held_append u k ps rest) ∙ ap (states_held u k) whole)
            ∙ b.joined k;
        trace_sound = All-append (λ p. u.aggregation.sound p.1) b.trace ps b.trace_sound
            (emitted-all (λ p. u.aggregation.sound p.1) to (held_pairs u g) (pairs-sound u fine g b.fit));
        trace_wide = All-append (λ p. length p.0 ≡ key_width u.settings) b.trace ps b.trace_wide
            (emitted-all (λ p. length p.0 ≡ key_width u.settings) to (held_pairs u g) (beside-all u (λ k. length k ≡ key_width u.settings) g.keys g.states b.fit.wide));
        fit = shed-fit to;
      }

  -- ---- the end step

  grand_wide_from : (s : ℕ) (sets : List (List Bool)) → All (λ k. length k ≡ key_width u.settings) (grand_keys_from u s sets)
  grand_wide_from s [] = tt
  grand_wide_from s (marks ∷ sets) =
      cond_both (all_masked marks) (masked_key u.settings.group_by s ∷ grand_keys_from u (s + 1) sets) (grand_keys_from u (s + 1) sets)
      (All (λ k. length k ≡ key_width u.settings))
      (λ _. (masked_key-length u.settings s, grand_wide_from (s + 1) sets)) (λ _. grand_wide_from (s + 1) sets)

  grand_wide : All (λ k. length k ≡ key_width u.settings) (grand_keys u)
  grand_wide =
      cond_both u.settings.group_by.grouped (grand_keys_from u 0 u.settings.group_by.sets) [] (All (λ k. length k ≡ key_width u.settings))
      (λ _. grand_wide_from 0 u.settings.group_by.sets) (λ _. tt)

  pub booked_done : Booked u rows gone (groups g.keys g.states (done g.order))
  booked_done =
      let f : Fit u g = b.fit in
      booked_same u fine b (groups g.keys g.states (done g.order))
      (record {
        sound = f.sound;
        wide = f.wide;
        aligned = f.aligned;
        apart = f.apart;
        bounded = f.bounded;
        mode = mode_done g.order ∙ f.mode;
      })
      (λ k. refl)

  -- neutral states are made for the keys of the wholly masked sets
  pub booked_totalled : Booked u rows gone (totalled u g)
  booked_totalled =
      let p = padded u fine.lawful g b.fit (grand_keys u) grand_wide in
      let after : List (List CellOf) = interned_all u.admitted g.keys (grand_keys u) in
      let ss : List S = updated u.aggregation u.settings.exprs [] [] (length after) g.states in
      cond_both (none g.keys) (groups after ss g.order) g (Booked u rows gone)
      (λ _. booked_same u fine b (groups after ss g.order)
      (record { sound = p.sound; wide = p.wide; aligned = p.aligned; apart = p.apart; bounded = p.bounded; mode = b.fit.mode }) p.at)
      (λ _. b)
