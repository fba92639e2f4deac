-- The one table of fields, to be laid beside the standard's (CWL v1.2, Command Line Tool Description and
-- Workflow Description): each object of a document, its fields, which have to be there, and their forms.
use Rattle.std.specs.Prelude.{ℕ, List, [], ◌∷◌, Option, Some, None, Bool, true, false, if◌then◌else◌, codes}
use Rattle.std.specs.Str.{bytes_eq}
use Rattle.document_table.specs.declared.form.FieldRow.{FieldRow}
use Rattle.document_table.specs.declared.form.FieldRow.TheVariants.{Must, May}
use Rattle.document_table.specs.declared.form.Form.{Form}
use Rattle.document_table.specs.declared.form.Form.TheVariants as form
use Rattle.document_table.specs.declared.form.Kind.{Kind}
use Rattle.document_table.specs.declared.form.Kind.TheVariants as kind

-- a field, whether it has to be there, and its form where it is
pub record Row : Type 0 where
  pub name : List ℕ
  pub required : Bool
  pub form : Form

abbrev pub must : List ℕ → Form → Row
must name form = record { name = name; required = true; form = form }

abbrev pub may : List ℕ → Form → Row
may name form = record { name = name; required = false; form = form }

-- what a row of the code says
abbrev pub row_seen : FieldRow → Row
row_seen (Must name form) = must name.now form
row_seen (May name form) = may name.now form

abbrev pub rows_of : Kind → List Row
rows_of kind.Packed =
    must (codes "cwlVersion") form.Version
    ∷ must (codes "$graph") form.Anything
    ∷ []
rows_of kind.Tool =
    may (codes "cwlVersion") form.Version
    ∷ must (codes "class") form.Text
    ∷ may (codes "id") form.Text
    ∷ must (codes "inputs") (form.Objects kind.ToolInput)
    ∷ must (codes "outputs") (form.Objects kind.ToolOutput)
    ∷ may (codes "baseCommand") form.Words
    ∷ may (codes "arguments") form.Arguments
    ∷ may (codes "stdin") form.Text
    ∷ may (codes "stdout") form.Text
    ∷ may (codes "stderr") form.Text
    ∷ may (codes "requirements") form.Requirements
    ∷ may (codes "hints") form.Hints
    ∷ may (codes "successCodes") form.Ints
    ∷ may (codes "temporaryFailCodes") form.Ints
    ∷ may (codes "permanentFailCodes") form.Ints
    ∷ []
rows_of kind.Workflow =
    may (codes "cwlVersion") form.Version
    ∷ must (codes "class") form.Text
    ∷ may (codes "id") form.Text
    ∷ must (codes "inputs") (form.Objects kind.WorkflowInput)
    ∷ must (codes "outputs") (form.Objects kind.WorkflowOutput)
    ∷ must (codes "steps") (form.Objects kind.Step)
    ∷ may (codes "requirements") form.Requirements
    ∷ may (codes "hints") form.Hints
    ∷ []
rows_of kind.ToolInput =
    must (codes "id") form.Id
    ∷ must (codes "type") form.InputType
    ∷ may (codes "default") form.Value
    ∷ may (codes "inputBinding") (form.Object kind.InputBinding)
    ∷ may (codes "loadContents") form.Bool
    ∷ may (codes "secondaryFiles") form.SecondaryFiles
    ∷ []
rows_of kind.ToolOutput =
    must (codes "id") form.Id
    ∷ must (codes "type") form.OutputType
    ∷ may (codes "outputBinding") (form.Object kind.OutputBinding)
    ∷ may (codes "secondaryFiles") form.SecondaryFiles
    ∷ []
rows_of kind.WorkflowInput =
    must (codes "id") form.Id
    ∷ must (codes "type") form.Type
    ∷ may (codes "default") form.Value
    ∷ may (codes "secondaryFiles") form.SecondaryFiles
    ∷ may (codes "inputBinding") form.Anything
    ∷ may (codes "loadContents") form.OnlyFalse
    ∷ []
rows_of kind.WorkflowOutput =
    must (codes "id") form.Id
    ∷ must (codes "type") form.Type
    ∷ may (codes "outputSource") form.Sources
    ∷ may (codes "linkMerge") form.LinkMerge
    ∷ may (codes "pickValue") form.PickValue
    ∷ may (codes "secondaryFiles") form.Anything
    ∷ []
rows_of kind.Step =
    must (codes "id") form.StepId
    ∷ must (codes "in") (form.Objects kind.StepInput)
    ∷ must (codes "out") form.StepOutputs
    ∷ must (codes "run") form.Run
    ∷ may (codes "scatter") form.Names
    ∷ may (codes "scatterMethod") form.ScatterMethod
    ∷ may (codes "when") form.Text
    ∷ may (codes "requirements") form.Requirements
    ∷ may (codes "hints") form.Hints
    ∷ []
rows_of kind.StepInput =
    must (codes "id") form.Id
    ∷ may (codes "source") form.Sources
    ∷ may (codes "linkMerge") form.LinkMerge
    ∷ may (codes "pickValue") form.PickValue
    ∷ may (codes "default") form.Value
    ∷ may (codes "valueFrom") form.Text
    ∷ may (codes "loadContents") form.OnlyFalse
    ∷ []
rows_of kind.StepOutput =
    must (codes "id") form.Id
    ∷ []
rows_of kind.InputBinding =
    may (codes "position") form.Int
    ∷ may (codes "prefix") form.Text
    ∷ may (codes "separate") form.Bool
    ∷ may (codes "itemSeparator") form.Text
    ∷ may (codes "valueFrom") form.Text
    ∷ may (codes "shellQuote") form.Anything
    ∷ may (codes "loadContents") form.Bool
    ∷ []
rows_of kind.Argument =
    may (codes "position") form.Int
    ∷ may (codes "prefix") form.Text
    ∷ may (codes "separate") form.Bool
    ∷ may (codes "itemSeparator") form.Text
    ∷ may (codes "valueFrom") form.Text
    ∷ may (codes "shellQuote") form.Anything
    ∷ []
rows_of kind.OutputBinding =
    may (codes "glob") form.Words
    ∷ may (codes "loadContents") form.Bool
    ∷ may (codes "outputEval") form.Text
    ∷ []
rows_of kind.ItemBinding =
    may (codes "prefix") form.Text
    ∷ may (codes "separate") form.Bool
    ∷ []
rows_of kind.ArrayType =
    must (codes "type") form.Text
    ∷ must (codes "items") form.Type
    ∷ may (codes "inputBinding") (form.Object kind.ItemBinding)
    ∷ []
rows_of kind.EnumType =
    must (codes "type") form.Text
    ∷ must (codes "symbols") form.Symbols
    ∷ may (codes "name") form.Text
    ∷ []
rows_of kind.SecondaryFile =
    must (codes "pattern") form.Pattern
    ∷ may (codes "required") form.MaybeBool
    ∷ []
rows_of kind.PlainRequirement =
    must (codes "class") form.Text
    ∷ []
rows_of kind.EnvVarRequirement =
    must (codes "class") form.Text
    ∷ must (codes "envDef") (form.Objects kind.Variable)
    ∷ []
rows_of kind.WorkReuse =
    must (codes "class") form.Text
    ∷ may (codes "enableReuse") form.Bool
    ∷ []
rows_of kind.Variable =
    must (codes "envName") form.Text
    ∷ must (codes "envValue") form.Text
    ∷ []

abbrev pub form_named : List ℕ → List Row → Option Form
form_named name [] = None
form_named name (row ∷ rows) = if bytes_eq row.name name then Some row.form else form_named name rows

-- the form of a field of such an object
abbrev pub form_of : Kind → List ℕ → Option Form
form_of kind name = form_named name (rows_of kind)
