-- The parser with document 01's letters, and what it computes with.
use Rattle.std.specs.Prelude.{ℕ, List}
use Rattle.std.proofs.Math.Option.{Option}
use Rattle.texts.specs.Runs.{run, front, behind}
use Rattle.texts.specs.Words.{starts, same}
use Rattle.alphabet.specs.Letters.{letter, digit, alphanumeric, nucleotide, residue}
use Rattle.residue_rows.specs.Rows.{rows}
use Rattle.residue.specs.Residues.{one_of, is_three, is_one}
use Rattle.residue.specs.Reading.{residue_len, threes_len, residues_len}
use Rattle.grammar.specs.Texts.{Text, all_letters}
use Rattle.lang.specs.Whole.{whole}
use Rattle.lang.specs.BothLang.{parse_both}
use Rattle.lang.specs.MuLang.{parse_mu}
use Rattle.lang.specs.IntervalLang.{parse_interval}
use Rattle.lang_locations.specs.Parse.{on_digits, parse_mark, parse_offset, parse_based, parse_unstarred, parse_genomic, parse_residual}
use Rattle.lang_na_edits.proofs.Alphabet.{alphabets}
use Rattle.lang_na_edits.specs.Choice.{on_some}
use Rattle.lang_na_edits.specs.Parse.{parse_ident, parse_subst, inserted, after_del_num, after_del, after_inv, parse_del, parse_ins, parse_dup, parse_inv, parse_na_edit}
use Rattle.lang_protein_edits.specs.Parse.{bytes_of, terminal_at, length_at, stop_at, earlier_with, earlier_at, ext_end_at, residues_behind, inserted_at, worded_at, parse_with, parse}
use Rattle.lang_headers.specs.Optionals.{is_there, parse_optional}
use Rattle.lang_headers.specs.Parse.{parse_accession, parse_gene, parse_header}
use Rattle.lang_headers.specs.Kinds.{first_kind, parse_kind}
use Rattle.lang_bodies.specs.ProteinBodies.{first_exact, parse_opened, parse_bare, parse_ordinary, parse_protein_body}
use Rattle.lang_bodies.proofs.WholeText.{parse_text}

abbrev pub parser : List ℕ → Option Text
parser = parse_text all_letters alphabets

-- where this unfolds, all that the parser computes with does
unfoldable pub computing : List ℕ → Option Text
unfolding run front behind starts same letter digit alphanumeric nucleotide residue rows one_of is_three is_one residue_len threes_len residues_len whole parse_both parse_mu parse_interval on_digits parse_mark parse_offset parse_based parse_unstarred parse_genomic parse_residual on_some parse_ident parse_subst inserted after_del_num after_del after_inv parse_del parse_ins parse_dup parse_inv parse_na_edit bytes_of terminal_at length_at stop_at earlier_with earlier_at ext_end_at residues_behind inserted_at worded_at parse_with parse is_there parse_optional parse_accession parse_gene parse_header first_kind parse_kind first_exact parse_opened parse_bare parse_ordinary parse_protein_body parse_text
computing = parser
