-- The query that finds a view in a table's place.
use Rattle.std.specs.Prelude.{ℕ, List, codes}

-- how many views have the name of a table of the record, in any case of its letters
abbrev pub views_text : List ℕ
views_text = codes "SELECT count(*) FROM sqlite_schema WHERE type = 'view' AND lower(name) IN ('meta', 'job', 'archive')"
