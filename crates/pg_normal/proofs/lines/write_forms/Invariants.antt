use Rattle.std.proofs.Common.{drop}
use Rattle.pg_normal.proofs.LineLemmas.{Written}
use Rattle.pg_normal.proofs.lines.write_forms.Given as goal

abbrev pub invariant-forms : goal.invariant-forms
invariant-forms l = Written l.file l.normals.normals (drop l.normal-index l.normals.normals) l.out.items
