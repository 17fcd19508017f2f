-- The books: what went out or waits, and what is held, are the accepted rows. They stay so when a batch is absorbed or passed on.
use Rattle.std.proofs.Common.{◌≡◌, ℕ, ◌+◌, ◌*◌, ◌<◌, ◌≤◌, true, false, List, [], ◌∷◌, ◌++◌, map, length, sym, refl, ap, ◌∙◌, subst, append-nil, arith}
use mathlib.Core.List.{map-append}
use Rattle.std.specs.List.{AllByRecursion as All}
use Rattle.std.proofs.ByRecursion.{All-append}
use Rattle.cells.specs.Rows.{CellOf}
use Rattle.model.specs.Setups.{Setup, num_sets, key_width, row_key, own, out_row}
use Rattle.model.specs.Machine.{Groups, beside, held_pairs, out_rows, absorbed, converted}
use Rattle.model.specs.Sql.{total}
use Rattle.model.specs.Law.{states_held, owns, Sensible}
use Rattle.model.proofs.Totals.{total_append, held_append, held_sound}
use Rattle.model.proofs.Feeding.{own_pairs}
use Rattle.model.proofs.Absorbing.{Fit, state_at, total_held, keys_wide, own_pairs_all, own_pairs_sound, set_pairs, set_pairs_sound, absorbed-from}
use Rattle.model.proofs.Owning.{owns-append, owns-by_set}
use Rattle.model.proofs.Asked.{plain_set}
use Rattle.model.proofs.Settled.{sets_apart}

pub record Booked {S : Type 0} (u : Setup S) (rows gone : List (List CellOf)) (g : Groups S) : Type 0 where
  pub trace : List (List CellOf × S)
  pub out : out_rows u trace ≡ gone
  pub joined : (k : List CellOf)
      → total u.aggregation (states_held u k trace ++ states_held u k (held_pairs u g)) ≡ total u.aggregation (owns u k rows)
  pub trace_sound : All (λ p. u.aggregation.sound p.1) trace
  pub trace_wide : All (λ p. length p.0 ≡ key_width u.settings) trace
  pub fit : Fit u g

module _ {S : Type 0} (u : Setup S) (fine : Sensible u) where
  beside-sound : (keys : List (List CellOf)) (ss : List S) → All u.aggregation.sound ss → All (λ p. u.aggregation.sound p.1) (beside u keys ss)
  beside-sound [] ss h = tt
  beside-sound (k ∷ keys) [] h = (fine.lawful.neutral_sound, beside-sound keys [] tt)
  beside-sound (k ∷ keys) (s ∷ ss) h = (h.0, beside-sound keys ss h.1)

  pub pairs-sound : (g : Groups S) → Fit u g → All (λ p. u.aggregation.sound p.1) (held_pairs u g)
  pairs-sound g f = beside-sound g.keys g.states f.sound

  owns-sound : (k : List CellOf) (rows : List (List CellOf)) → All u.aggregation.sound (owns u k rows)
  owns-sound k rows =
      subst (λ (ss : List S). All u.aggregation.sound ss) (owns-by_set u k (sets_apart u fine) rows)
      (held_sound u k (set_pairs u 0 (num_sets u.settings) rows) (set_pairs_sound u fine.lawful 0 (num_sets u.settings) rows))

  owns-total : (k : List CellOf) (rows more : List (List CellOf))
      → total u.aggregation (owns u k (rows ++ more)) ≡ u.aggregation.join (total u.aggregation (owns u k rows)) (total u.aggregation (owns u k more))
  owns-total k rows more =
      ap (total u.aggregation) (owns-append u k rows more) ∙ total_append u.aggregation fine.lawful (owns u k rows) (owns u k more) (owns-sound k more)

  -- what is held counts by the state of the key
  counted : (k : List CellOf) (xs : List S) (g : Groups S) → Fit u g
      → total u.aggregation (xs ++ states_held u k (held_pairs u g)) ≡ u.aggregation.join (total u.aggregation xs) (state_at u g k)
  counted k xs g f =
      total_append u.aggregation fine.lawful xs (states_held u k (held_pairs u g)) (held_sound u k (held_pairs u g) (pairs-sound g f))
      ∙ ap (u.aggregation.join (total u.aggregation xs)) (total_held u fine.lawful k g f)

  module _ {rows gone : List (List CellOf)} {g : Groups S} (b : Booked u rows gone g) where
    -- other groups with the same state for each key
    pub booked_same : (g' : Groups S) → Fit u g' → ((k : List CellOf) → state_at u g' k ≡ state_at u g k) → Booked u rows gone g'
    booked_same g' f same = record {
      trace = b.trace;
      out = b.out;
      joined = λ k. counted k (states_held u k b.trace) g' f
          ∙ ap (u.aggregation.join (total u.aggregation (states_held u k b.trace))) (same k)
          ∙ sym (counted k (states_held u k b.trace) g b.fit)
          ∙ b.joined k;
      trace_sound = b.trace_sound;
      trace_wide = b.trace_wide;
      fit = f;
    }

    pub booked_absorbed : (more : List (List CellOf))
        → ((i : ℕ) → i < num_sets u.settings → All (λ k. u.admitted k ≡ true) (map (row_key u.settings i) more))
        → length g.keys + length more * num_sets u.settings ≤ 512 → Booked u (rows ++ more) gone (absorbed u g more)
    booked_absorbed more ad room =
        let n : ℕ = num_sets u.settings in
        let after = absorbed-from u fine.lawful n 0 g b.fit more (λ i _ high. ad i (omega arith)) room in
        record {
          trace = b.trace;
          out = b.out;
          joined = λ k.
              let J : S → S → S = u.aggregation.join in
              let T : S = total u.aggregation (states_held u k b.trace) in
              let O : S = total u.aggregation (owns u k more) in
              counted k (states_held u k b.trace) (absorbed u g more) after.fit
              ∙ ap (J T) (after.at k ∙ ap (λ (ss : List S). J (state_at u g k) (total u.aggregation ss)) (owns-by_set u k (sets_apart u fine) more))
              ∙ sym (fine.lawful.assoc T (state_at u g k) O)
              ∙ ap (λ (x : S). J x O) (sym (counted k (states_held u k b.trace) g b.fit) ∙ b.joined k)
              ∙ sym (owns-total k rows more);
          trace_sound = b.trace_sound;
          trace_wide = b.trace_wide;
          fit = after.fit;
        }

    -- nothing is held, and there are no grouping sets: rows are passed on
    pub booked_converted : (more : List (List CellOf)) → g.keys ≡ [] → u.settings.group_by.grouped ≡ false
        → Booked u (rows ++ more) (gone ++ converted u more) g
    booked_converted more empty alone =
        let ps : List (List CellOf × S) = own_pairs u 0 more in
        record {
          trace = b.trace ++ ps;
          out = map-append (λ (p : List CellOf × S). out_row u p.0 p.1) b.trace ps
              ∙ ap (λ (xs : List (List CellOf)). xs ++ out_rows u ps) b.out
              ∙ ap (λ (xs : List (List CellOf)). gone ++ xs) (shown more);
          joined = λ k.
              let none : states_held u k (held_pairs u g) ≡ [] = ap (λ (ks : List (List CellOf)). states_held u k (beside u ks g.states)) empty in
              let X : List S = states_held u k b.trace in
              ap (λ (ss : List S). total u.aggregation (ss ++ states_held u k (held_pairs u g))) (held_append u k b.trace ps)
              ∙ ap (λ (ss : List S). total u.aggregation ((X ++ states_held u k ps) ++ ss)) none
              ∙ ap (total u.aggregation) (append-nil (X ++ states_held u k ps))
              ∙ total_append u.aggregation fine.lawful X (states_held u k ps) (held_sound u k ps (own_pairs_sound u fine.lawful 0 more))
              ∙ ap (λ (x : S). u.aggregation.join x (total u.aggregation (states_held u k ps)))
              (ap (total u.aggregation) (sym (append-nil X)) ∙ ap (λ (ss : List S). total u.aggregation (X ++ ss)) (sym none) ∙ b.joined k)
              ∙ ap (λ (ss : List S). u.aggregation.join (total u.aggregation (owns u k rows)) (total u.aggregation ss)) (own_states k)
              ∙ sym (owns-total k rows more);
          trace_sound = All-append (λ p. u.aggregation.sound p.1) b.trace ps b.trace_sound (own_pairs_sound u fine.lawful 0 more);
          trace_wide = All-append (λ p. length p.0 ≡ key_width u.settings) b.trace ps b.trace_wide
              (own_pairs_all u (λ k. length k ≡ key_width u.settings) 0 more (keys_wide u 0 more));
          fit = b.fit;
        }
      where
        shown : (xs : List (List CellOf)) → out_rows u (own_pairs u 0 xs) ≡ converted u xs
        shown [] = refl
        shown (x ∷ xs) = ap (λ (ys : List (List CellOf)). out_row u (row_key u.settings 0 x) (own u x) ∷ ys) (shown xs)

        own_states : (k : List CellOf) → states_held u k (own_pairs u 0 more) ≡ owns u k more
        own_states k =
            ap (states_held u k) (sym (append-nil (own_pairs u 0 more)))
            ∙ ap (λ (n : ℕ). states_held u k (set_pairs u 0 n more)) (sym (plain_set u true fine.asked alone))
            ∙ owns-by_set u k (sets_apart u fine) more
