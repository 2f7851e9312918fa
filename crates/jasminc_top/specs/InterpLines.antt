-- The lines that tell why a function of a text in the whole language is not run, without their line
-- feeds.
use Rattle.std.specs.Prelude.{List, ℕ, ◌++◌, codes, decimal}
use Rattle.jz_types.specs.declared.fault.TypeRule.{TypeRule}
use Rattle.jz_types.specs.declared.fault.TypeRule.TheVariants as rule
use Rattle.jz_types.specs.declared.fault.TypeFault.{TypeFault}
use Rattle.jz_types.specs.Faults.{rule_number}
use Rattle.jz_limits.specs.declared.limit.Limit.{Limit}
use Rattle.jz_limits.specs.declared.limit.Limit.TheVariants as limit
use Rattle.jz_annotations.specs.declared.precondition.Pre.{Pre}
use Rattle.jz_text.specs.Texts.{span_text}
use Rattle.jasminc_lines.specs.Preconditions.{pre_text}
use Rattle.jasminc_source.specs.declared.limits.FunLimit.{FunLimit}
use Rattle.jasminc_source.specs.declared.unread.Unread.{Unread}
use Rattle.jasminc_source.specs.declared.unread.Unread.TheVariants as unread
use Rattle.jasminc_interp.specs.declared.refused.Refused.{Refused}
use Rattle.jasminc_interp.specs.declared.refused.Refused.TheVariants as refused
use Rattle.jasminc_top.specs.Lines.{lexer_line, parser_line}

unfoldable pub rule_name : TypeRule → List ℕ
rule_name rule.Unknown = codes "Unknown"
rule_name rule.Duplicate = codes "Duplicate"
rule_name rule.Mismatch = codes "Mismatch"
rule_name rule.Storage = codes "Storage"
rule_name rule.Recursion = codes "Recursion"
rule_name rule.NoInstruction = codes "NoInstruction"
rule_name rule.ArrayCopy = codes "ArrayCopy"
rule_name rule.BadAnnotation = codes "BadAnnotation"
rule_name rule.ExportShape = codes "ExportShape"
rule_name rule.RegIndex = codes "RegIndex"

abbrev pub type_line : TypeFault → List ℕ
type_line f =
    codes "type " ++ decimal (rule_number f.rule) ++ codes " " ++ rule_name f.rule
    ++ codes " " ++ span_text f.span

unfoldable pub limit_name : Limit → List ℕ
limit_name limit.Expand = codes "Expand"
limit_name (limit.InlineWidth at) = codes "InlineWidth"
limit_name (limit.IndexRange at) = codes "IndexRange"
limit_name (limit.ImmRange at) = codes "ImmRange"

-- too many statements by the function's name, all else by its place
abbrev pub limit_subject : List ℕ → Limit → List ℕ
limit_subject fun limit.Expand = fun
limit_subject fun (limit.InlineWidth at) = span_text at
limit_subject fun (limit.IndexRange at) = span_text at
limit_subject fun (limit.ImmRange at) = span_text at

abbrev pub limit_text : FunLimit → List ℕ
limit_text l =
    codes "limit " ++ limit_name l.limit ++ codes " " ++ limit_subject l.fun l.limit

abbrev pub unread_text : Unread → List ℕ
unread_text (unread.Lex fault) = lexer_line fault
unread_text (unread.Parse fault) = parser_line fault
unread_text (unread.Typing fault) = type_line fault

abbrev pub frame_line : List ℕ → List ℕ
frame_line name = codes "limit Frame " ++ name

abbrev pub unknown_text : List ℕ → List ℕ
unknown_text name = codes "unknown function " ++ name

abbrev pub unmet_text : Pre → List ℕ
unmet_text pre = codes "precondition " ++ pre_text pre

abbrev pub refused_text : Refused → List ℕ
refused_text (refused.Unread u) = unread_text u
refused_text (refused.NoFunction name) = unknown_text name
refused_text (refused.Limit l) = limit_text l
refused_text refused.Items = codes "precondition items"
refused_text (refused.Unmet pre) = unmet_text pre
