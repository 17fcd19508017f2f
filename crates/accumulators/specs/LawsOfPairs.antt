-- Two lawful aggregations side by side are lawful.
use Rattle.std.specs.Prelude.{◌≡◌, None}
use Rattle.std.proofs.Common.{arith}
use Rattle.std.proofs.ByRecursion.{All-take, All-drop}
use Rattle.std.proofs.lemmas.List.{length-append, take_at, drop_at}
use Rattle.aggregates.specs.Arguments.{argument_of}
use Rattle.accumulators.specs.Aggregations.{Aggregation, Lawful, paired}
use Rattle.accumulators.specs.SideBySide.{pairs}

pub pair_lawful : {S T : Type 0} (a : Aggregation S) (b : Aggregation T) → Lawful a → Lawful b → Lawful (paired a b)
pair_lawful a b l m = record {
  assoc = λ s t u. pairs (l.assoc s.0 t.0 u.0) (m.assoc s.1 t.1 u.1);
  neutral_left = λ s h. pairs (l.neutral_left s.0 h.0) (m.neutral_left s.1 h.1);
  neutral_right = λ s h. pairs (l.neutral_right s.0 h.0) (m.neutral_right s.1 h.1);
  neutral_sound = (l.neutral_sound, m.neutral_sound);
  join_sound = λ s t h k. (l.join_sound s.0 t.0 h.0 k.0, m.join_sound s.1 t.1 h.1 k.1);
  own_sound = λ exprs row. (l.own_sound _ row, m.own_sound _ row);
  own_absent = λ exprs row none.
      pairs (l.own_absent _ row (All-take (λ e. argument_of e row ≡ None) a.aggregates exprs none)) (m.own_absent _ row (All-drop (λ e. argument_of e row ≡ None) a.aggregates exprs none));
  shows_length = λ s. omega (arith, length-append (a.shows s.0) (b.shows s.1), l.shows_length s.0, m.shows_length s.1);
  reads_shows = λ s h.
      pairs
      (rw (take_at (a.shows s.0) (b.shows s.1) a.state_cells (l.shows_length s.0)) (l.reads_shows s.0 h.0))
      (rw (drop_at (a.shows s.0) (b.shows s.1) a.state_cells (l.shows_length s.0)) (m.reads_shows s.1 h.1));
  reads_sound = λ cs. (l.reads_sound _, m.reads_sound _);
  results_length = λ s. omega (arith, length-append (a.results s.0) (b.results s.1), l.results_length s.0, m.results_length s.1);
}
