-- What stands before the body: the accession, the gene in brackets where there is one, and the kind.
use Rattle.std.specs.Prelude.{None, Some}
use Prim.Native.Char.{code}
use Rattle.record.specs.declared.Span.{Span}
use Rattle.record.specs.Named.{Part}
use Rattle.record.specs.declared.Kind.{Kind}
use Rattle.record.specs.declared.Header.{Header}
use Rattle.emit_piece.specs.Texts.{no_span}
use Rattle.emit_draft.specs.declared.Heading.{Heading}

abbrev pub heading_with : Span → Part → Kind → Heading
heading_with a None k = record { accession = a; opening = None; gene = no_span; closing = None; kind = k }
heading_with a (Some g) k = record { accession = a; opening = Some (code "("); gene = g; closing = Some (code ")"); kind = k }

abbrev pub heading_of : Header → Kind → Heading
heading_of h k = heading_with h.accession h.gene_symbol k
