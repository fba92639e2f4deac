-- A picture of a plan, in the language of Graphviz ("DOT Language").
use Rattle.std.specs.Prelude.{ℕ, ◌==◌, Bool, true, false, List, ◌++◌, length, codes, chars, encode_utf8, flat_map, Option, Some, None, slice_index, if◌then◌else◌}
use Rattle.std.specs.Fmt.{decimal}
use Rattle.plan_checker.specs.declared.vertex.Vertex.{Vertex}
use Rattle.plan_checker.specs.declared.plan.Mark.{Mark}
use Rattle.plan_checker.specs.declared.plan.Mark.TheVariants.{Load, Compute, Prune}
use Rattle.plan_checker.specs.declared.charges.Charges.{Charges}
use Rattle.plan_checker.specs.Charges.{passes}
use Rattle.plan_checker.specs.Graph.{vertex}
use Rattle.plan_checker.specs.Plan.{mark}
use Rattle.plan_words.specs.Lines.{place, texts_below}
use Rattle.plan_words.specs.Marks.{is_same}

-- a character of a label: a quote would end it, and a backslash or `&` would begin a code
abbrev pub escaped_char : ℕ → List ℕ
escaped_char c =
    if c == 34 then codes "\\\"" else (if c == 92 then codes "\\\\" else (if c == 38 then codes "&amp;" else encode_utf8 c))

unfoldable pub escaped : List ℕ → List ℕ
escaped text = flat_map escaped_char (chars text)

-- shape and colour
abbrev pub look : Mark → List ℕ
look Load = codes ", shape=cylinder, fillcolor=lightblue"
look Compute = codes ", shape=box, fillcolor=palegreen"
look Prune = codes ", shape=ellipse, fillcolor=gray90"

-- what is needed has a double rim
abbrev pub rim : Bool → List ℕ
rim true = codes ", peripheries=2]\n"
rim false = codes "]\n"

-- a load cost, or a dash where there is none
abbrev pub load_word : Option ℕ → List ℕ
load_word (Some cost) = decimal cost
load_word None = codes "-"

-- the end of a label
abbrev pub costs_text : Vertex → List ℕ
costs_text job = codes "\\nload " ++ load_word job.load ++ codes ", compute " ++ decimal job.compute ++ codes "\""

-- the beginning of the line of job i
abbrev pub node_start : ℕ → List ℕ
node_start i = decimal i ++ codes " [label=\""

-- job i: its place and its costs, by its mark
abbrev pub job_node : List Vertex → List Mark → List (List ℕ) → ℕ → List ℕ
job_node graph marks places i =
    node_start i ++ escaped (place places i) ++ costs_text (vertex graph i)
    ++ (look (mark marks i) ++ rim (vertex graph i).needed)

-- from a parent to a child, with what the child passes to it
abbrev pub arrow_ends : (parent child amount : ℕ) → List ℕ
arrow_ends parent child amount =
    decimal parent ++ codes " -> " ++ decimal child ++ codes " [label=\"" ++ decimal amount ++ codes "\""

-- the cut is dashed
abbrev pub arrow_end : Bool → List ℕ
arrow_end true = codes "]\n"
arrow_end false = codes ", style=dashed, color=red]\n"

-- an arrow is cut where its ends have different marks: one is computed and the other isn't, or one is kept and the other isn't
abbrev pub arrow : List Mark → (parent child amount : ℕ) → List ℕ
arrow marks parent child amount =
    arrow_ends parent child amount ++ arrow_end (is_same (mark marks parent) (mark marks child))

-- to a child from each of its parents
abbrev pub arrows : List Mark → (child : ℕ) → (parents amounts : List ℕ) → List ℕ
arrows marks child parents amounts =
    texts_below (length parents) (λ k. arrow marks (slice_index parents k) child (slice_index amounts k))

abbrev pub title : ℕ → List ℕ
title cost = codes "digraph plan {\ngraph [label=\"cost " ++ decimal cost ++ codes "\", rankdir=LR]\nnode [style=filled]\n"

-- a job, with the arrows to it
abbrev pub drawn : List Vertex → List Mark → Charges → List (List ℕ) → ℕ → List ℕ
drawn graph marks charges places i =
    job_node graph marks places i ++ arrows marks i (vertex graph i).parents (passes charges i)

abbrev pub picture : ℕ → List Vertex → List Mark → Charges → List (List ℕ) → List ℕ
picture cost graph marks charges places =
    title cost ++ texts_below (length graph) (drawn graph marks charges places) ++ codes "}\n"
