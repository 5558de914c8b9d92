mod EscapeLemmas
mod PartLemmas
mod PieceLemmas
mod PrintLemmas
