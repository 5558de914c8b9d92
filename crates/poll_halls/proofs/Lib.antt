mod OpenPlaces
