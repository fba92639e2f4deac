-- What is read off the events after more of them: each reading goes on from where it was.
use Rattle.std.specs.Prelude.{◌||◌}
use Rattle.std.specs.List.{list_any}
use Rattle.std.proofs.Common.{◌≡◌, ◌∙◌, ◌+◌, List, [], ◌++◌, false, length, filter, fold, None, ap, length-append}
use Rattle.std.proofs.lemmas.List.Elements.{filter-append, filter_map-append}
use Rattle.std.proofs.lemmas.List.Folds.{list_any-append}
use Rattle.std.proofs.lemmas.List.Sums.{fold-append}
use Rattle.job_graph.specs.Words.{Name, JobPlace}
use Rattle.run_rules.specs.Events.{Event, measures_after, measures, measures_path, is_measured, resolves, resolved, flight_after, in_flight, brings, is_at_hand, number_if, number_at, fetched_if, is_fetched, started_if, started_at, delivered_if, delivered_at, is_numbered}
use Rattle.run_rules.specs.End.{gives_up, is_lost_collect}

module _ (es new : List Event) where
  pub in_flight_after : in_flight (es ++ new) ≡ fold flight_after (in_flight es) new
  in_flight_after = fold-append flight_after [] es new

  pub number_after : (place : JobPlace) → number_at (es ++ new) place ≡ fold (number_if place) (number_at es place) new
  number_after place = fold-append (number_if place) 0 es new

  pub fetched_after : (place : JobPlace) → is_fetched (es ++ new) place ≡ fold (fetched_if place) (is_fetched es place) new
  fetched_after place = fold-append (fetched_if place) false es new

  pub started_after : (place : JobPlace) → started_at (es ++ new) place ≡ fold (started_if place) (started_at es place) new
  started_after place = fold-append (started_if place) None es new

  pub delivered_after : delivered_at (es ++ new) ≡ fold delivered_if (delivered_at es) new
  delivered_after = fold-append delivered_if None es new

  pub all_measures_after : measures (es ++ new) ≡ fold measures_after (measures es) new
  all_measures_after = fold-append measures_after [] es new

  pub is_measured_after : (path : Name) → is_measured (es ++ new) path ≡ (is_measured es path || is_measured new path)
  is_measured_after path = list_any-append (measures_path path) es new

  pub resolved_after : resolved (es ++ new) ≡ resolved es ++ resolved new
  resolved_after = filter_map-append resolves es new

  pub is_at_hand_after : (place : JobPlace) → is_at_hand (es ++ new) place ≡ (is_at_hand es place || is_at_hand new place)
  is_at_hand_after place = list_any-append (brings place) es new

  pub lost_after : list_any is_lost_collect (es ++ new) ≡ (list_any is_lost_collect es || list_any is_lost_collect new)
  lost_after = list_any-append is_lost_collect es new

  pub stagings_after : length (filter is_numbered (es ++ new)) ≡ length (filter is_numbered es) + length (filter is_numbered new)
  stagings_after = ap length (filter-append is_numbered es new) ∙ length-append (filter is_numbered es) (filter is_numbered new)

  pub gave_up_after : (place : JobPlace) →
      length (filter (gives_up place) (es ++ new)) ≡ length (filter (gives_up place) es) + length (filter (gives_up place) new)
  gave_up_after place = ap length (filter-append (gives_up place) es new) ∙ length-append (filter (gives_up place) es) (filter (gives_up place) new)
